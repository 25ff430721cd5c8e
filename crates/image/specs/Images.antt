-- The paper's device information, key and erase addresses as values of the code, and back.
use Rattle.std.specs.Prelude.{ℕ, List, [], ◌∷◌, drop, Option, Some, None, Result, Ok, Err}
use Rattle.std.proofs.Math.Option as Maybe
use Rattle.paper.specs.Frame as Paper
use Rattle.paper.specs.Hearing.{on_some}
use Rattle.paper.specs.Answers.{below}
use Rattle.image.specs.declared.BadInfo.{BadInfo}
use Rattle.image.specs.declared.Info.{Info}

-- Device information of the code as the paper's, and of the paper as the code's.
abbrev pub paper_info : Info → Paper.Info
paper_info i = record {
  capacity = i.capacity;
  erase_size = i.erase_size;
  boot_version = i.boot_version;
  app_version = i.app_version;
  mode = i.mode;
  boot_baud = i.boot_baud;
  compat = i.compat;
  max_payload = i.max_payload;
}

abbrev pub code_info : Paper.Info → Info
code_info i = record {
  capacity = i.capacity;
  erase_size = i.erase_size;
  boot_version = i.boot_version;
  app_version = i.app_version;
  mode = i.mode;
  boot_baud = i.boot_baud;
  compat = i.compat;
  max_payload = i.max_payload;
}

-- A payload that is no device information.
abbrev pub bad_info : BadInfo
bad_info = record {}

abbrev pub shown_info : Maybe.Option Paper.Info → Result Info BadInfo
shown_info o = on_some o (Err bad_info) (λ i. Ok (code_info i))

abbrev pub shown_key : Maybe.Option ℕ → Option ℕ
shown_key o = on_some o None (λ k. Some k)

abbrev pub first_of : List ℕ → Option ℕ
first_of [] = None
first_of (a ∷ more) = Some a

-- The erase address after this one, or none.
unfoldable pub erase_after : Paper.Info → ℕ → Option ℕ
erase_after info address = first_of (drop 1 (below info.erase_size info.capacity address))
