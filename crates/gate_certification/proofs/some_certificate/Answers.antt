use Rattle.gate_certification.proofs.Laws.{certs_skip, certs_found, certs_next, certs_none}
use Rattle.gate_certification.proofs.some_certificate.Goals as goal
use Rattle.gate_certification.proofs.some_certificate.Goals.{else-rec-eq-CERTIFICATE-via-then-rec-eq-CERTIFICATE+else-test, else-rec-eq-CERTIFICATE-via-else-rec-eq-CERTIFICATE}

pub returns-then-test : goal.returns-then-test
returns-then-test g c t h =
    certs_found t _ _ _ (c.loop-i.invariant t h) c.loop-i-test.true c.if-rec-eq-CERTIFICATE.true _ (h _ _ c.loop-i-test.true c.test.ensures) c.if-test.true

pub loop-i-preserved : goal.loop-i-preserved
loop-i-preserved g c t h =
    elim c.else-rec-eq-CERTIFICATE.branch [
      | else-rec-eq-CERTIFICATE-via-then-rec-eq-CERTIFICATE+else-test w ↦
          certs_next t _ _ _ (c.loop-i.invariant t h) c.loop-i-test.true w.if-rec-eq-CERTIFICATE.true _ (h _ _ c.loop-i-test.true w.test.ensures) w.if-test.false
      | else-rec-eq-CERTIFICATE-via-else-rec-eq-CERTIFICATE w ↦ certs_skip t _ _ _ (c.loop-i.invariant t h) c.loop-i-test.true w.if-rec-eq-CERTIFICATE.false
    ]

pub returns : goal.returns
returns g c t h = certs_none t _ _ _ (c.loop-i.invariant t h) c.loop-i-test.false
