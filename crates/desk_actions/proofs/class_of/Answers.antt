-- The table's rule, proved once: read entry by entry, it is the table of the definitions.
use mathlib.Core.Path.{refl}
use mathlib.Core.List.{List, [], ◌∷◌}
use Rattle.rules.specs.Desk.{classes, class_of, forbidden}
use Rattle.desk_actions.specs.declared.Class.{Class}
use Rattle.desk_actions.specs.declared.Class.TheVariants.{Harmless, Signature, Encryption, Forbidden}
use Rattle.desk_actions.specs.Classes.{class_as}
use Rattle.desk_actions.proofs.Laws.{table_at}
use borrow.Author.Rules.{rules}
use Rattle.desk_actions.proofs.class_of.Goals as goal

table : List Class
table =
    Harmless ∷ Harmless ∷ Harmless ∷ Harmless
    ∷ Signature ∷ Signature ∷ Signature ∷ Signature
    ∷ Encryption ∷ Encryption
    ∷ Forbidden ∷ Forbidden ∷ Forbidden ∷ Forbidden ∷ Forbidden ∷ Forbidden
    ∷ []

pub returns : goal.returns
unfolding table class_of
returns c = table_at class_as table classes c.args.b Harmless forbidden refl (search rules)
