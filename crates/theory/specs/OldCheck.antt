-- Document 01's rule for a frame's check that W-202 withdraws, "the check of all bytes before it, A5 included": the
-- frames of hosts and logs from before W-202.
use Rattle.std.specs.Prelude.{ℕ, List, ◌++◌}
use Rattle.paper.specs.Frame.{le, check, Frame, frame_body}

-- All bytes of a frame with the old check.
abbrev pub old_bytes : Frame → List ℕ
old_bytes f = frame_body f ++ le 2 (check (frame_body f))
