use lib.ListN.{drop}
use Rattle.rules.specs.Basics.{records}
use Rattle.trim_hints.specs.Hinting.{places_of}
use Rattle.trim_hints.proofs.Hints.{Hinted}
use Rattle.trim_hints.proofs.hint_of.Given as goal

abbrev pub invariant-loop-rec : goal.invariant-loop-rec
invariant-loop-rec l = let b = records l.facts.bundle.now in Hinted b l.checked l.source (drop l.rec-index l.rest) (places_of b l.group l.rest) l.hint
