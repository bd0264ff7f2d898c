-- What a chord wants to be equal (rule 1.2): a value as the model's, and the value for it.
use Rattle.model.specs.Tables.{Equality, any, same_property, same_unit}
use Rattle.table.specs.declared.Equality as DE
use Rattle.table.specs.declared.Equality.TheVariants as E

abbrev pub equality_in : DE.Equality → Equality
equality_in E.Any = any
equality_in E.Property = same_property
equality_in E.Unit = same_unit

abbrev pub equality_for : Equality → DE.Equality
equality_for any = E.Any
equality_for same_property = E.Property
equality_for same_unit = E.Unit
