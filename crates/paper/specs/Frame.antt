-- Document 01, "Bench frame", with document 02's W-202: numbers in bytes, how a frame is written, its check, how a
-- frame is read, and the Info payload.
use Rattle.std.specs.Prelude.{ℕ, zero, suc, ◌+◌, ◌*◌, ◌/◌, ◌%◌, Bool, cond, List, [], ◌∷◌, ◌++◌, ltb, eqb, length, get_or, take, drop}
use Rattle.std.specs.Int.Bits.{bit_xor}

-- "Numbers are little-endian": x as k bytes.
unfoldable pub le : ℕ → ℕ → List ℕ
le zero x = []
le (suc k) x = x % 256 ∷ le k (x / 256)

-- "Numbers are little-endian": the number that the bytes hold.
unfoldable pub number : List ℕ → ℕ
number [] = 0
number (b ∷ bs) = b + 256 * number bs

-- "Bench frame": the byte at a place, 0 past the end.
abbrev pub byte : ℕ → List ℕ → ℕ
byte at bytes = get_or bytes at 0

-- "Numbers are little-endian": the number in the k bytes from a place on.
abbrev pub field : ℕ → ℕ → List ℕ → ℕ
field at k bytes = number (take k (drop at bytes))

-- "1, 2, 3 command, status, flags; 4-7 address; 8-9 payload length n .. from 10 the payload".
pub record Frame : Type 0 where
  pub command : ℕ
  pub status : ℕ
  pub flags : ℕ
  pub address : ℕ
  pub payload : List ℕ

-- "payload length n, 0 to 1,024".
abbrev pub most : ℕ
most = 1024

-- "from 10 the payload; the last 2 the check": how many bytes a frame has.
abbrev pub size : Frame → ℕ
size f = 12 + length f.payload

-- "Byte 0 is A5; 1, 2, 3 command, status, flags; 4-7 address; 8-9 payload length n".
unfoldable pub frame_head : Frame → List ℕ
frame_head f = (0xA5 ∷ f.command ∷ f.status ∷ f.flags ∷ []) ++ le 4 f.address ++ le 2 (length f.payload)

-- "from 10 the payload".
unfoldable pub frame_body : Frame → List ℕ
frame_body f = frame_head f ++ f.payload

-- "polynomial 1021 .. no reflection": one bit. The register shifts left; if a 1 is shifted out, the polynomial is XORed
-- in.
unfoldable pub crc_bit : ℕ → ℕ
crc_bit c = cond (ltb c 0x8000) (c * 2) (bit_xor (c * 2 % 0x10000) 0x1021)

-- Of the next: one byte is XORed into the high byte of the register, then eight bits are shifted.
unfoldable pub crc_byte : ℕ → ℕ → ℕ
crc_byte c b = crc_bit (crc_bit (crc_bit (crc_bit (crc_bit (crc_bit (crc_bit (crc_bit (bit_xor c (b * 256)))))))))

-- Of the next: the register after some bytes, starting from c.
unfoldable pub crc_from : ℕ → List ℕ → ℕ
crc_from c [] = c
crc_from c (b ∷ bs) = crc_from (crc_byte c b) bs

-- "The check is CRC-16/IBM-3740 of the public CRC catalogue: polynomial 1021, start FFFF, no reflection, no final
-- change."
unfoldable pub check : List ℕ → ℕ
check bytes = crc_from 0xFFFF bytes

-- W-202: "the check covers bytes 1 up to the end of the payload": the check of a frame, from its bytes up to there.
abbrev pub frame_check : List ℕ → ℕ
frame_check body = check (drop 1 body)

-- "from 10 the payload; the last 2 the check": all bytes of a frame.
unfoldable pub frame_bytes : Frame → List ℕ
frame_bytes f = frame_body f ++ le 2 (frame_check (frame_body f))

-- "Commands: Info 0".
abbrev pub command-Info : ℕ
command-Info = 0

-- "Commands: .. Erase 1".
abbrev pub command-Erase : ℕ
command-Erase = 1

-- "Commands: .. Write 2".
abbrev pub command-Write : ℕ
command-Write = 2

-- "Commands: .. Verify 3".
abbrev pub command-Verify : ℕ
command-Verify = 3

-- "Commands: .. Reset 4".
abbrev pub command-Reset : ℕ
command-Reset = 4

-- "Commands: .. Select 5".
abbrev pub command-Select : ℕ
command-Select = 5

-- "Statuses: Request 0".
abbrev pub status-Request : ℕ
status-Request = 0

-- "Statuses: .. Ok 1".
abbrev pub status-Ok : ℕ
status-Ok = 1

-- "Statuses: .. Unsupported 2".
abbrev pub status-Unsupported : ℕ
status-Unsupported = 2

-- "Statuses: .. CrcMismatch 3".
abbrev pub status-CrcMismatch : ℕ
status-CrcMismatch = 3

-- "Flags: FLUSH 1".
abbrev pub flag-FLUSH : ℕ
flag-FLUSH = 1

-- "Flags: .. BOOTLOADER 1".
abbrev pub flag-BOOTLOADER : ℕ
flag-BOOTLOADER = 1

-- "Flags: .. BAUD 2".
abbrev pub flag-BAUD : ℕ
flag-BAUD = 2

-- "short .. too long .. bad check, fields still read. Else whole": a frame comes with the number of bytes skipped
-- before it.
pub data Reading : Type 0 where
  short : Reading
  too_long : Reading
  bad_check : ℕ → Frame → Reading
  whole : ℕ → Frame → Reading

-- "Reading skips to the next A5": how many bytes come before it; all of them if there is none.
unfoldable pub skipped : List ℕ → ℕ
skipped [] = 0
skipped (b ∷ bs) = cond (eqb b 0xA5) 0 (1 + skipped bs)

-- "fields still read": the fields of a frame with n bytes of payload, where the bytes begin with its A5.
abbrev pub fields : ℕ → List ℕ → Frame
fields n bytes = record {
  command = byte 1 bytes;
  status = byte 2 bytes;
  flags = byte 3 bytes;
  address = field 4 4 bytes;
  payload = take n (drop 10 bytes);
}

-- "A wrong check: bad check": whether the check after n bytes of payload is right.
unfoldable pub right_check : ℕ → List ℕ → Bool
right_check n bytes = eqb (frame_check (take (10 + n) bytes)) (field (10 + n) 2 bytes)

-- "Then a length over 1,024: too long. Then bytes missing: short. A wrong check: bad check, fields still read. Else
-- whole."
unfoldable pub read_sized : ℕ → ℕ → List ℕ → Reading
read_sized skip n bytes =
    cond (ltb most n) too_long
    (cond (ltb (length bytes) (12 + n)) short
    (cond (right_check n bytes) (whole skip (fields n bytes)) (bad_check skip (fields n bytes))))

-- "fewer than 10 bytes from it: short".
unfoldable pub read_synced : ℕ → List ℕ → Reading
read_synced skip bytes = cond (ltb (length bytes) 10) short (read_sized skip (field 8 2 bytes) bytes)

-- "Reading skips to the next A5. No A5, or fewer than 10 bytes from it: short."
unfoldable pub read : List ℕ → Reading
read bytes = read_synced (skipped bytes) (drop (skipped bytes) bytes)

-- "Bench frame": a result for each kind of reading.
abbrev pub on_reading {ℓ} : {A : Type ℓ} → Reading → A → A → (ℕ → Frame → A) → (ℕ → Frame → A) → A
on_reading short s l b w = s
on_reading too_long s l b w = l
on_reading (bad_check k f) s l b w = b k f
on_reading (whole k f) s l b w = w k f

-- "Info payload, 18 bytes: capacity 4, erase_size 2, boot_version 2, app_version 2, mode 1, boot_baud 1, compat 4,
-- max_payload 2."
pub record Info : Type 0 where
  pub capacity : ℕ
  pub erase_size : ℕ
  pub boot_version : ℕ
  pub app_version : ℕ
  pub mode : ℕ
  pub boot_baud : ℕ
  pub compat : ℕ
  pub max_payload : ℕ

-- "Info payload, 18 bytes .. Longer is allowed."
unfoldable pub info_of : List ℕ → Info
info_of payload = record {
  capacity = field 0 4 payload;
  erase_size = field 4 2 payload;
  boot_version = field 6 2 payload;
  app_version = field 8 2 payload;
  mode = byte 10 payload;
  boot_baud = byte 11 payload;
  compat = field 12 4 payload;
  max_payload = field 16 2 payload;
}

-- "Unset compat is FFFFFFFF."
abbrev pub unset : ℕ
unset = 0xFFFFFFFF
