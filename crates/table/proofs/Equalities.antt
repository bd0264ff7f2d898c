-- What a chord wants to be equal: the value that stands for it, seen as the model's, is it; and no other value is.
use mathlib.Core.Path.{◌≡◌, refl, ap}
use Rattle.model.specs.Tables.{Equality, any, same_property, same_unit}
use Rattle.table.specs.declared.Equality as DE
use Rattle.table.specs.declared.Equality.TheVariants as E
use Rattle.table.specs.Equalities.{equality_in, equality_for}

pub equality-in : (e : Equality) → equality_in (equality_for e) ≡ e
equality-in any = refl
equality-in same_property = refl
equality-in same_unit = refl

pub equality-for : (v : DE.Equality) {e : Equality} → equality_in v ≡ e → v ≡ equality_for e
equality-for E.Any h = ap equality_for h
equality-for E.Property h = ap equality_for h
equality-for E.Unit h = ap equality_for h
