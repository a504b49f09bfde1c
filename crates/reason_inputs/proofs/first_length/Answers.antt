use mathlib.Core.Path.{refl, sym, ◌∙◌}
use Rattle.std.specs.Prelude.{Ok}
use Rattle.reason_inputs.specs.declared.Input.TheVariants.{Km0}
use Rattle.reason_inputs.proofs.Laws.{search_stop, search_next, search_done, only_length}
use Rattle.reason_inputs.proofs.first_length.Goals as goal

pub loop-located-preserved : goal.loop-located-preserved
loop-located-preserved c = search_next _ _ _ (record { input = Km0; found = Ok tt }) _ c.loop-located.invariant c.loop-located-test.true (sym c.is_length.ensures ∙ c.if-is_length.false)

pub returns-then-is_length : goal.returns-then-is_length
returns-then-is_length c = search_stop _ _ _ (record { input = Km0; found = Ok tt }) _ c.loop-located.invariant _ c.loop-located-test.true (only_length _ (sym c.is_length.ensures ∙ c.if-is_length.true)) refl

pub returns : goal.returns
returns c = search_done _ _ _ (record { input = Km0; found = Ok tt }) _ c.loop-located.invariant c.loop-located-test.false
