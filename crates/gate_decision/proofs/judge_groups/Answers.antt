use native.Mathlib.Omega.{arith}
use mathlib.Core.Logic.{inl}
use mathlib.Core.Path.{sym, ◌∙◌, ap}
use Rattle.rules.specs.Basics.{records}
use Rattle.rules.specs.Request.{request_of}
use Rattle.gate_decision.specs.Standings.{group_result, record_result}
use Rattle.gate_decision.proofs.Laws.{groups_done, group_grants, group_next, groups_within, result_at, granting_is}
use Rattle.gate_decision.proofs.judge_groups.Goals as goal

pub loop-place-init-derived : goal.loop-place-init-derived
loop-place-init-derived c =
    let few = groups_within c.args.acl.now in
    ((tt, tt, inl (rw (c.into_iter-place-iterator.ensures.into_iter_gives, c.enumerate-place-items.ensures.source, c.enumerate-place-items.ensures.count) (omega (arith, few)))), tt)

pub returns-then-eq : goal.returns-then-eq
returns-then-eq c = let e = c.in-Some.ensures.steps in
    let a = c.args in
    let q = request_of a.presented.now.req.now in
    let t =
    c.group_result-result.ensures.comes
    ∙ ap (λ (p : _). record_result a.counters.now c.count_at-own.result a.elapsed a.km0.now (request_of p.req.now) c.in-Some.group.now (records c.in-Some.body.now)) c.loop-place.invariant.presented in
    let d = result_at a.counts.now a.counters.now c.count_at-own.result a.elapsed a.km0.now q c.in-Some.place _ _ _ c.count_at-own.ensures t in
    group_grants (group_result a.counts.now a.counters.now a.elapsed a.km0.now q) _ _ _ _ c.loop-place.invariant.judged _ _ e.0 c.in-Some.place e.1 _ d (sym (granting_is _ _ c.eq.ensures) ∙ c.if-eq.true)

pub loop-place-preserved : goal.loop-place-preserved
loop-place-preserved c = let e = c.in-Some.ensures.steps in
    let a = c.args in
    let q = request_of a.presented.now.req.now in
    let t =
    c.group_result-result.ensures.comes
    ∙ ap (λ (p : _). record_result a.counters.now c.count_at-own.result a.elapsed a.km0.now (request_of p.req.now) c.in-Some.group.now (records c.in-Some.body.now)) c.loop-place.invariant.presented in
    let d = result_at a.counts.now a.counters.now c.count_at-own.result a.elapsed a.km0.now q c.in-Some.place _ _ _ c.count_at-own.ensures t in
    record {
      presented = ap (λ (p : _). p.now) c.group_result-result.ensures.kept ∙ c.loop-place.invariant.presented;
      judged =
          group_next (group_result a.counts.now a.counters.now a.elapsed a.km0.now q) _ _ _ _ c.loop-place.invariant.judged _ _ e.0 c.in-Some.place e.1 _ d
          (sym (granting_is _ _ c.eq.ensures) ∙ c.if-eq.false) _ c.with-near.ensures _ e.2;
    }

pub returns : goal.returns
returns c =
    groups_done (group_result c.args.counts.now c.args.counters.now c.args.elapsed c.args.km0.now (request_of c.args.presented.now.req.now)) _ _ _ _
    c.loop-place.invariant.judged c.in-None.ensures.steps.0.0 _ c.from.ensures
