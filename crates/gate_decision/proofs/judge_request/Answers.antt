use mathlib.Core.Path.{◌∙◌, ap}
use Rattle.rules.specs.Request.{certificates_of, delegations_of}
use Rattle.gate_decision.proofs.Laws.{few_records}
use Rattle.gate_decision.proofs.OnePass.{early_either, in_time_lem}
use borrow.Author.Rules.{rules}
use Rattle.gate_decision.proofs.judge_request.Goals as goal

pub returns-then-time-loaded : goal.returns-then-time-loaded
returns-then-time-loaded c = early_either _ _ _ _ _ _ _ _ c.time-time.ensures c.then-time-loaded.either

pub link-requires-clause-few : goal.link-requires-clause-few
link-requires-clause-few c = few_records c.args.req.now _ _ _ c.requires.1.0 c.records-dels.ensures

pub link-requires-clause-few_dels : goal.link-requires-clause-few_dels
link-requires-clause-few_dels c = few_records c.args.req.now _ _ _ c.requires.1.0 c.records-dels.ensures

pub link-requires-2-clause-few : goal.link-requires-2-clause-few
link-requires-2-clause-few c = few_records c.args.req.now 64 _ _ c.requires.1.0 c.records-certs.ensures

pub link-requires-2-clause-few_dels : goal.link-requires-2-clause-few_dels
link-requires-2-clause-few_dels c = few_records c.args.req.now _ _ _ c.requires.1.0 c.records-dels.ensures

pub invariant_of-presented : goal.invariant_of-presented
invariant_of-presented c = record {
  whole = c.requires.0;
  few_certs = few_records c.args.req.now 64 _ _ c.requires.1.0 c.records-certs.ensures;
  few_dels = few_records c.args.req.now _ _ _ c.requires.1.0 c.records-dels.ensures;
  certificates = ap certificates_of c.records-certs.ensures ∙ c.delegations_start-start.ensures.certificates;
  delegations = ap delegations_of c.records-dels.ensures ∙ c.delegations_start-start.ensures.delegations;
  linked = c.link.ensures;
  ended = c.link-2.ensures;
}

pub returns : goal.returns
returns c = search (rules, in_time_lem)
