-- A choice by false is its second branch.
use mathlib.Core.Bool.{Bool, false, cond}
use mathlib.Core.Path.{◌≡◌}

pub cond_no : {A : Type 0} (b : Bool) (x y r : A) → b ≡ false → r ≡ y → r ≡ cond b x y
cond_no b x y r h e = rw h e
