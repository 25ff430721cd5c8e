-- The parts of an image that Writes carry.
use Rattle.std.specs.Prelude.{ℕ, ◌+◌, ◌-◌, ◌/◌, Bool, cond, List, leb, take, drop}
use Rattle.paper.specs.Frame.{Info}
use Rattle.paper.specs.Answers.{chunk, padded, steps}

-- How many bytes are left from an offset on. The image has n bytes, and is padded.
abbrev pub left : ℕ → ℕ → ℕ
left n offset = padded n - offset

-- The Write at an offset carries all that is left.
unfoldable pub is_last : Info → ℕ → ℕ → Bool
is_last info n offset = leb (left n offset) (chunk info.max_payload)

-- How many of the size bytes of a Write come from an image of n bytes; the others are padding.
unfoldable pub image_bytes : ℕ → ℕ → ℕ → ℕ
image_bytes n offset size = cond (leb size (n - offset)) size (n - offset)

abbrev pub part : ℕ → ℕ → List ℕ → List ℕ
part offset size image = take size (drop offset image)

-- How many chunks are done after the one at an offset.
abbrev pub chunks_to : Info → ℕ → ℕ
chunks_to info offset = offset / chunk info.max_payload + 1

abbrev pub chunks : Info → ℕ → ℕ
chunks info n = steps (chunk info.max_payload) (padded n)
