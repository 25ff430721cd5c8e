-- Answers to the goals of `client_record::answer::tells`.
use Rattle.client_record.proofs.answer.Ways.{payload-fits, payload-within, tells-lost, tells-device, tells-ok}
use borrow.Author.Rules.{rules}
use Rattle.client_record.proofs.answer.tells.Goals as goal

pub overflow_add-to : goal.overflow_add-to
overflow_add-to c = search (payload-fits, rules)

pub slice_bounds-accepted-end : goal.slice_bounds-accepted-end
slice_bounds-accepted-end c = search (payload-within, rules)

pub returns-in-Err-Lost : goal.returns-in-Err-Lost
returns-in-Err-Lost c = search (tells-lost, rules)

pub returns-in-Err-Device : goal.returns-in-Err-Device
returns-in-Err-Device c = search (tells-device, rules)

pub returns-in-Ok : goal.returns-in-Ok
returns-in-Ok c = search (tells-ok, rules)
