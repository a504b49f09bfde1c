use mathlib.Core.Path.{◌∙◌, ap}
use Rattle.rules.specs.Basics.{Bytes, records}
use Rattle.rules.specs.Request.{blobfile_request_record, presented_fault}
use Rattle.request_reader.proofs.Laws.{following_plain, following_missing, following_bad, following_file, enough}
use Rattle.request_reader.proofs.following_records.Goals as goal

pub returns-then-not-flag_of : goal.returns-then-not-flag_of
returns-then-not-flag_of c = following_plain _ _ _ c.flag_of.ensures _ c.if-not-flag_of.true c.presented_records.ensures

pub returns-in_default : goal.returns-in_default
returns-in_default c = following_missing _ _ _ c.flag_of.ensures c.if-not-flag_of.false c.in_default.ensures.cases

pub returns-then-not-blobfile_record : goal.returns-then-not-blobfile_record
returns-then-not-blobfile_record c = let e = c.in-Some.ensures.cases in
    following_bad _ _ _ c.flag_of.ensures c.if-not-flag_of.false (enough _ _ e.2) _ (c.blobfile_record.ensures ∙ ap blobfile_request_record e.0) c.if-not-blobfile_record.true

pub returns : goal.returns
returns c = let e = c.in-Some.ensures.cases in
    following_file _ _ _ c.flag_of.ensures c.if-not-flag_of.false (enough _ _ e.2) _ (c.blobfile_record.ensures ∙ ap blobfile_request_record e.0) _ c.if-not-blobfile_record.false
    (c.presented_records-2.ensures ∙ ap (λ (s : Bytes). presented_fault (records s)) e.1)
