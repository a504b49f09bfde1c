use Rattle.gate_certification.specs.Levels.{next_level, continues}
use Rattle.gate_certification.proofs.Links.{goes_on_is}
use Rattle.rules.specs.Request.{delegations_of}
use borrow.Author.Rules.{rules}
use Rattle.gate_certification.proofs.presented.Presented.next_level.Goals as goal

pub returns : goal.returns
unfolding next_level
returns c = let p = c.args.self.now in
    c.delegations_where.ensures (continues c.args.p c.args.key.now (delegations_of p.dels.now) c.args.set)
    (λ i r b e. goes_on_is c.args.p c.args.key.now p.dels.now c.args.set p.links.now p.linked i r b (search rules))
