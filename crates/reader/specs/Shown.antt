-- The paper's frames and readings as values of the code, with their places in the record.
use Rattle.std.specs.Prelude.{ℕ, ◌+◌, List, Result, Ok, Err, length}
use Rattle.paper.specs.Frame as Paper
use Rattle.paper.specs.Frame.{byte, field, on_reading}
use Rattle.reader.specs.declared.Frame.{Frame}
use Rattle.reader.specs.declared.Unread.{Unread}
use Rattle.reader.specs.declared.Unread.TheVariants.{Short, TooLong, BadCheck}

-- A frame of the paper whose A5 is at a place.
abbrev pub frame_at : ℕ → Paper.Frame → Frame
frame_at at f = record {
  command = f.command;
  status = f.status;
  flags = f.flags;
  address = f.address;
  payload = at + 10;
  len = length f.payload;
  end = at + (12 + length f.payload);
}

-- The same, read from bytes that begin with the A5 of a frame with n bytes of payload.
abbrev pub fields_at : ℕ → ℕ → List ℕ → Frame
fields_at at n bytes = record {
  command = byte 1 bytes;
  status = byte 2 bytes;
  flags = byte 3 bytes;
  address = field 4 4 bytes;
  payload = at + 10;
  len = n;
  end = at + (12 + n);
}

-- What the paper reads from a place of the record on: a whole frame, or why there is none.
abbrev pub shown_from : ℕ → Paper.Reading → Result Frame Unread
shown_from at r =
    on_reading r (Err Short) (Err TooLong)
    (λ k f. Err (BadCheck (frame_at (at + k) f)))
    (λ k f. Ok (frame_at (at + k) f))
