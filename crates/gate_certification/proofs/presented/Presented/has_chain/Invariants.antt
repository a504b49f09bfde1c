use mathlib.Core.Path.{◌≡◌}
use Rattle.rules.specs.Request.{delegations_of}
use Rattle.gate_certification.specs.Levels.{level}
use Rattle.gate_certification.proofs.presented.Presented.has_chain.Given as goal

abbrev pub invariant-loop : goal.invariant-loop
invariant-loop l = l.ends ≡ level l.counter l.p l.key (delegations_of l.self.dels.now)
