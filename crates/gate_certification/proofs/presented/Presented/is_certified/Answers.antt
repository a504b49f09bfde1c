use mathlib.Core.Bool.{true, not}
use mathlib.Core.Path.{◌≡◌, sym, ◌∙◌, ap}
use Rattle.rules.specs.Basics.{part, optional, flag, number}
use Rattle.rules.specs.Request.{request_of}
use Rattle.rules.specs.Chain.{serves}
use borrow.Author.Rules.{rules}
use Rattle.gate_certification.proofs.Laws.{certifier_absent, certifier_shown, certifier_delegates}
use Rattle.gate_certification.proofs.presented.Presented.is_certified.Goals as goal
use Rattle.gate_certification.proofs.presented.Presented.is_certified.Goals.{then-not-flag_of, else-not-flag_of}

pub returns-then-some_certificate : goal.returns-then-some_certificate
returns-then-some_certificate c = let g = c.args.group.now in
    let q = request_of c.args.self.now.req.now in
    elim c.if-not-flag_of.branch [
      | then-not-flag_of w ↦ w.value-is ∙ certifier_absent g q _ c.flag_of.ensures w.if-not-flag_of.true
      | else-not-flag_of w ↦
          let t = w.some_certificate.ensures (serves (part 4 20 g) (optional (flag 1 g) (number 24 2 g))) (λ i r b e. search rules) in
          w.value-is ∙ certifier_shown g q _ c.flag_of.ensures w.if-not-flag_of.false _ c.args.self.now.certificates _ t (sym w.value-is ∙ c.if-some_certificate.true)
    ]

pub returns-else-some_certificate : goal.returns-else-some_certificate
returns-else-some_certificate c = let g = c.args.group.now in
    let q = request_of c.args.self.now.req.now in
    elim c.if-not-flag_of.branch [
      | then-not-flag_of w ↦
          let x : not c.flag_of.result ≡ true = ap not w.if-not-flag_of.true in
          cc
      | else-not-flag_of w ↦
          let t = w.some_certificate.ensures (serves (part 4 20 g) (optional (flag 1 g) (number 24 2 g))) (λ i r b e. search rules) in
          certifier_delegates g q _ c.flag_of.ensures w.if-not-flag_of.false _ c.args.self.now.certificates _ t _ _ c.args.self.now.delegations (sym w.value-is ∙ c.if-some_certificate.false) c.is_delegated.ensures
    ]
