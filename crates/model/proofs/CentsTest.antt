-- Cents in range, as the code compares them.
use mathlib.Core.Path.{◌≡◌, refl}
use mathlib.Core.Bool.{Bool, true, false, ◌&&◌}
use Prim.Native.Nat.{ℕ}
use native.Mathlib.Omega.{arith}
use borrow.Author.Tests.{lt-ltb, le-ltb, leb-true, leb-false}
use lib.Dec.{ltb, leb}
use lib.IntN.{ℤ, pos, negsuc}
use lib.Signed.{le_z}
use Rattle.model.specs.Adds.{cents_ok}

low : (a : ℕ) (u : Bool) → leb a 999999999998 ≡ u → (u && true) ≡ ltb a 999999999999
low a true e = rw (lt-ltb a 999999999999 (omega (arith, leb-true a 999999999998 e)))
low a false e = rw (le-ltb a 999999999999 (omega (arith, leb-false a 999999999998 e)))

pub cents-within : (z : ℤ) → (le_z (negsuc 999999999998) z && le_z z (pos 999999999999)) ≡ cents_ok z
cents-within (pos a) = refl
cents-within (negsuc a) = low a (leb a 999999999998) refl
