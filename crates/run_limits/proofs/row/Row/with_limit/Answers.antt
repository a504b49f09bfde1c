use Rattle.std.proofs.Common.{rules, arith, ◌∙◌}
use Rattle.run_limits.proofs.Filling.{own_bound, own_last, named_bound, named_last, timed_bound, timed_last, unnamed_words, named_words}
use Rattle.run_limits.proofs.row.Row.with_limit.Goals as goal
use Rattle.run_limits.proofs.row.Row.with_limit.Goals.{in-1, in-2, in_default}

pub returns : goal.returns
returns c =
    let e = c.be32-maximum.ensures in
    elim c.match-limit-offset4.branch [
      | in-1 w ↦
          record {
            bound = rw w.result-is (rw (w.min.ensures, e) (own_bound _ _ _ w.in-1.is));
            last = rw w.result-is (own_last _ _ _ w.in-1.is);
            words = rw w.result-is (unnamed_words _ _ (λ k. absurd (omega (arith, w.in-1.is, k))));
            one = rw w.result-is (omega arith);
          }
      | in-2 w ↦
          record {
            bound = rw w.result-is (named_bound _ _ _ w.in-2.is);
            last = rw w.result-is (named_last _ _ _ w.in-2.is);
            words = rw w.result-is (named_words _ _ _ _ w.in-2.is (search rules) e (omega arith));
            one = rw w.result-is (omega arith);
          }
      | in_default w ↦
          let d = w.in_default in
          record {
            bound = rw w.result-is (w.with_end.ensures.0 ∙ rw e (timed_bound _ _ (λ k. absurd (omega arith)) (λ k. absurd (omega arith)) _));
            last = rw w.result-is (w.with_end.ensures.1 ∙ rw e (timed_last _ _ (λ k. absurd (omega arith)) (λ k. absurd (omega arith)) _));
            words = rw w.result-is (w.with_end.ensures.2 ∙ unnamed_words _ _ (λ k. absurd (omega arith)));
            one = rw w.result-is (let n = w.with_end.ensures.3 in omega arith);
          }
    ]
