use mathlib.Core.Path.{refl}
use Rattle.rules.specs.Written.{hint_bytes}
use Rattle.trim_hints.specs.Hinting.{begun_hint}
use Rattle.trim_hints.proofs.Hint.begun.Goals as goal

pub returns : goal.returns
unfolding begun_hint hint_bytes
returns c = refl
