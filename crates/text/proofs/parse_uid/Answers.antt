-- Answers to the goals of `text::parse_uid`.
use native.Mathlib.Omega.{arith}
use borrow.Author.Rules.{rules}
use Rattle.text.proofs.Reading.{none_read, refused, odd, bad-high, bad-low, bad_digit, good_digit, read_more, read_all}
use Rattle.text.proofs.Reading.{zero_more}
use Rattle.text.proofs.parse_uid.Goals as goal
use Rattle.text.proofs.parse_uid.Goals.{then-pairs-gt-MAX_BYTES-via-then-pairs-gt-MAX_BYTES, then-pairs-gt-MAX_BYTES-via-else-pairs-gt-MAX_BYTES+then-not-is_empty}

pub returns-then-pairs-gt-MAX_BYTES : goal.returns-then-pairs-gt-MAX_BYTES
returns-then-pairs-gt-MAX_BYTES c =
    elim c.then-pairs-gt-MAX_BYTES.branch [
      | then-pairs-gt-MAX_BYTES-via-then-pairs-gt-MAX_BYTES w ↦ refused _ _ (search rules) (λ h. absurd (omega arith))
      | then-pairs-gt-MAX_BYTES-via-else-pairs-gt-MAX_BYTES+then-not-is_empty w ↦ search (odd, rules)
    ]

pub loop-i-init : goal.loop-i-init
loop-i-init c = (search rules, search rules, none_read _)

pub returns-in_err-ok_or : goal.returns-in_err-ok_or
returns-in_err-ok_or c = refused _ _ (search rules)
    (λ h. bad-high _ _ _ c.loop-i.invariant.2 _ c.as_chunks.ensures.front c.as_chunks.ensures.front_len c.loop-i-test.true
    (bad_digit _ _ _ c.digit.ensures c.in_err-ok_or.ensures.value))

pub returns-in_err-bytes : goal.returns-in_err-bytes
returns-in_err-bytes c = refused _ _ (search rules)
    (λ h. bad-low _ _ _ c.loop-i.invariant.2 _ c.as_chunks.ensures.front c.as_chunks.ensures.front_len c.loop-i-test.true
    (bad_digit _ _ _ c.digit-in-loop-i.ensures c.in_err-bytes.ensures.value))

pub loop-i-preserved : goal.loop-i-preserved
loop-i-preserved c = (
  search rules,
  search (zero_more, rules),
  read_more _ _ _ c.loop-i.invariant.2 _ c.as_chunks.ensures.front c.as_chunks.ensures.front_len c.loop-i-test.true _ _
      (good_digit _ _ _ c.digit.ensures c.in_ok-ok_or.ensures.value)
      (good_digit _ _ _ c.digit-in-loop-i.ensures c.in_ok-bytes.ensures.value) (search rules),
)

pub returns : goal.returns
returns c = search (read_all, rules)
