use mathlib.Core.Path.{◌∙◌}
use Rattle.rules.specs.Basics.{optional, flag, number}
use Rattle.rules.specs.Request.{certificates_of, delegations_of}
use Rattle.gate_certification.specs.Levels.{ends_at}
use Rattle.gate_certification.proofs.Links.{ends_are, end_is}
use borrow.Author.Rules.{rules}
use Rattle.gate_certification.proofs.presented.Presented.leads_to_certificate.Goals as goal

pub returns : goal.returns
returns c = let p = c.args.self.now in
    let g = c.args.group.now in
    let m = optional (flag 1 g) (number 24 2 g) in
    c.some_certificate.ensures (ends_at m (delegations_of p.dels.now) c.args.set)
    (λ i r b e. end_is g p.certs.now p.dels.now c.args.set p.shown.now p.ended i r b (search rules))
    ∙ ends_are m c.args.set (certificates_of p.certs.now) (delegations_of p.dels.now)
