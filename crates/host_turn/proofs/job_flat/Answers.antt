-- Answers to the goals of `host_turn::job_flat`.
use Rattle.host_turn.proofs.Ways.{at-case, demanding-neither, demanding-unreset, demanding-uninformed}
use Rattle.host_turn.specs.Turns.{job_flat}
use borrow.Author.Rules.{rules}
use Rattle.host_turn.proofs.job_flat.Goals as goal

pub returns-in-Informing : goal.returns-in-Informing
unfolding job_flat
returns-in-Informing c = search (at-case job_flat, demanding-neither, rules)

pub returns-in-Erasing : goal.returns-in-Erasing
unfolding job_flat
returns-in-Erasing c = search (at-case job_flat, demanding-unreset, rules)

pub returns-in-Writing : goal.returns-in-Writing
unfolding job_flat
returns-in-Writing c = search (at-case job_flat, demanding-unreset, rules)

pub returns-in-Verifying : goal.returns-in-Verifying
unfolding job_flat
returns-in-Verifying c = search (at-case job_flat, demanding-unreset, rules)

pub returns-in-Resetting : goal.returns-in-Resetting
unfolding job_flat
returns-in-Resetting c = search (at-case job_flat, demanding-uninformed, rules)
