use borrow.Author.Tests.{le-ltb, lt-ltb}
use native.Mathlib.Omega.{arith}
use mathlib.Core.Option.{none}
use mathlib.Core.Path.{refl, ◌∙◌, ap}
use Rattle.rules.specs.Request.{presented_fault}
use Rattle.record_fields.proofs.Walks.{scan_done}
use Rattle.request_reader.proofs.Laws.{certificate_bad, certificate_full, certificate_sound, delegation_bad, delegation_full, delegation_sound}
use Rattle.request_reader.proofs.presented_records.Goals as goal

pub loop-rec-init : goal.loop-rec-init
unfolding presented_fault
loop-rec-init c = record { certificates_read = omega arith; delegations_read = omega arith; left = refl }

pub returns-then-not-certificate_record-dels : goal.returns-then-not-certificate_record-dels
returns-then-not-certificate_record-dels c = certificate_bad _ _ _ _ _ c.loop-rec.invariant.left c.loop-rec-test.true c.if-rec-eq-CERTIFICATE.true _ c.certificate_record.ensures c.if-not-certificate_record-dels.true ∙ ap presented_fault c.records-rec-items.ensures

pub returns-then-not-certs : goal.returns-then-not-certs
returns-then-not-certs c = certificate_full _ _ _ _ _ c.loop-rec.invariant.left c.loop-rec-test.true c.if-rec-eq-CERTIFICATE.true _ c.certificate_record.ensures c.if-not-certificate_record-dels.false (le-ltb _ _ c.if-not-certs.true) ∙ ap presented_fault c.records-rec-items.ensures

pub loop-rec-preserved-then-rec-eq-CERTIFICATE : goal.loop-rec-preserved-then-rec-eq-CERTIFICATE
loop-rec-preserved-then-rec-eq-CERTIFICATE c = record { certificates_read = omega (arith, c.loop-rec.invariant.certificates_read); delegations_read = omega (arith, c.loop-rec.invariant.delegations_read); left = certificate_sound _ _ _ _ _ c.loop-rec.invariant.left c.loop-rec-test.true c.if-rec-eq-CERTIFICATE.true _ c.certificate_record.ensures c.if-not-certificate_record-dels.false (lt-ltb _ _ c.if-not-certs.false) }

pub returns-then-not-delegation_record : goal.returns-then-not-delegation_record
returns-then-not-delegation_record c = delegation_bad _ _ _ _ _ c.loop-rec.invariant.left c.loop-rec-test.true c.if-rec-eq-CERTIFICATE.false _ c.delegation_record.ensures c.if-not-delegation_record.true ∙ ap presented_fault c.records-rec-items.ensures

pub returns-then-not-dels : goal.returns-then-not-dels
returns-then-not-dels c = delegation_full _ _ _ _ _ c.loop-rec.invariant.left c.loop-rec-test.true c.if-rec-eq-CERTIFICATE.false _ c.delegation_record.ensures c.if-not-delegation_record.false (le-ltb _ _ c.if-not-dels.true) ∙ ap presented_fault c.records-rec-items.ensures

pub loop-rec-preserved : goal.loop-rec-preserved
loop-rec-preserved c = record { certificates_read = omega (arith, c.loop-rec.invariant.certificates_read); delegations_read = omega (arith, c.loop-rec.invariant.delegations_read); left = delegation_sound _ _ _ _ _ c.loop-rec.invariant.left c.loop-rec-test.true c.if-rec-eq-CERTIFICATE.false _ c.delegation_record.ensures c.if-not-delegation_record.false (lt-ltb _ _ c.if-not-dels.false) }

pub returns : goal.returns
returns c = scan_done _ _ _ _ _ _ _ c.loop-rec.invariant.left none c.loop-rec-test.false refl ∙ ap presented_fault c.records-rec-items.ensures
