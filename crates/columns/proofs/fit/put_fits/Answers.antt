-- `columns::fit::put_fits` meets its contract, by what is wanted to be equal.
use mathlib.Core.Path.{sym}
use borrow.Author.Rules.{rules}
use Rattle.columns.proofs.Told.{told-as, fitting-any, fitting-property, fitting-both}
use Rattle.columns.proofs.fit.put_fits.Goals as goal

pub put_kinds-requires : goal.put_kinds-requires
put_kinds-requires c = record {
  from_bound = search rules;
  told = told-as (fitting-any _ _ _ _ _ c.in-Any.is) c.requires.told;
}

pub put_properties-requires : goal.put_properties-requires
put_properties-requires c = record {
  from_bound = search rules;
  told = told-as (fitting-property _ _ _ _ _ c.in-Property.is) c.requires.told;
}

pub put_both-requires : goal.put_both-requires
put_both-requires c = record {
  from_bound = search rules;
  told = told-as (fitting-both _ _ _ _ _ c.in-Unit.is) c.requires.told;
}

pub returns-in-Any : goal.returns-in-Any
returns-in-Any c = told-as (λ k. sym (fitting-any _ _ _ _ _ c.in-Any.is k)) c.put_kinds.ensures

pub returns-in-Property : goal.returns-in-Property
returns-in-Property c = told-as (λ k. sym (fitting-property _ _ _ _ _ c.in-Property.is k)) c.put_properties.ensures

pub returns-in-Unit : goal.returns-in-Unit
returns-in-Unit c = told-as (λ k. sym (fitting-both _ _ _ _ _ c.in-Unit.is k)) c.put_both.ensures
