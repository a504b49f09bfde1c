-- The definitions that a table of computed rows looks through, all of them, named once: `unfolding computing` unfolds each.
use Prim.Native.Nat.{ℕ}
use Rattle.rules.specs.Basics.{any, all, all_zero, same, number_from, ascii, all_below, bit_count, within, set_of, chunks, records, joined, fits, first_fault, record_fault, each_fault, scan, file_fault}
use Rattle.rules.specs.Layout.{header, zero_unless, mechanism_at, token_parameters_at, token_parameters_if, certifier_mechanism, group_laid_out, counter_under, limit_under, permissions_laid_out, blob_action_laid_out, archive_action_laid_out, use_laid_out, blob_request_laid_out, recovery_laid_out, certificate_laid_out, fact_laid_out, signature_laid_out, policy_laid_out, hint_laid_out, delegation_laid_out, blobfile_laid_out, blobfile_request_laid_out}
use Rattle.rules.specs.Acl.{action_of, blobfile_rule_next, limits_of, actions_of, groups_of, among, limit_in_place, action_laid_out, blobfile_record, placed_under, in_place_under, has_room_under, keyed, after_record, record_fault_under, acl_fault_under}
use Rattle.rules.specs.Request.{wanted_of, blobfile_next, certificates_of, delegations_of, request_from, request_laid_out, stands_alone, request_record_fault, use_of, certificate_record, delegation_record, certificate_fault, delegation_fault, presented_record_fault, after_presented, presented_fault, blobfile_request_record, blobfile_follows, request_fault, hint_record, hint_fault, hints_fault}
use Rattle.rules.specs.Chain.{serves, holds, chained, delegated, vouched}
use Rattle.rules.specs.Ledger.{raised_by, charge}
use Rattle.rules.specs.Grant.{admits_use, admits_working, admits_recovery, admits, limit_left}
use Rattle.rules.specs.Narrow.{no_wider, actions_no_wider, answers, is_answered, narrows_from}
use Rattle.rules.specs.Gate.{lowest, judge, request, clear, narrow, expand}
use Rattle.rules.specs.Cabinet.{cabinet_request, cabinet_load, cabinet_clear, cabinet_narrow, cabinet_expand}
use Rattle.rules.specs.Suites.{suite}
use Rattle.rules.specs.Bundle.{order_of, bundle_record_laid_out, bundle_in_place, bundle_has_room, bundle_record_fault, listed_after, bundle_end, bundle_fault, first_record, numbered, field, lists, listed, signature_outcome, policy_record, policy_of}
use Rattle.rules.specs.Desk.{km_vouched, km_fips_vouched, kre_vouched, module_key, recovery_key, class_of, policy_admits, failure_under, acl_failure, action_protection, smallest, key_protection, recoverable_key, full_failure, basic_failure, desk_fault, desk}
use Rattle.rules.specs.Subject.{subject, subject_fault, subject_reply, subject_buffer}
use Rattle.rules.specs.Day.{day_fault, digits, lines_from, day_lines}
use Rattle.rules.specs.Written.{big_endian, certificate_bytes, hint_bytes, parameters_bytes, blob_request_bytes}
use Rattle.rules.specs.Runs.{with_row, bytes_of_answer, asked_in_order, run_fault, run}
use Rattle.rules.specs.Prepared.{use_sets, form_of, prepare, same_form, prepared_fault, prepared_run}
use Rattle.rules.specs.CabinetRuns.{cabinet_run, cabinet_prepared_run}
use Rattle.rules.specs.Trim.{kept_below, with_bits, is_checked, action_passes, stays, trimmed_record, trimmed_from, kept_indices, hints_from, trimmed_acl, trim_hints, trim_fault, trim_reply, trim_acl_buffer, trim_hint_buffer}

-- what it is does not matter; its next line does
unfoldable pub computing : ℕ
unfolding any all all_zero same number_from ascii all_below bit_count within set_of chunks records joined fits first_fault record_fault each_fault scan file_fault header zero_unless mechanism_at token_parameters_at token_parameters_if certifier_mechanism group_laid_out counter_under limit_under permissions_laid_out blob_action_laid_out archive_action_laid_out use_laid_out blob_request_laid_out recovery_laid_out certificate_laid_out fact_laid_out signature_laid_out policy_laid_out hint_laid_out delegation_laid_out blobfile_laid_out blobfile_request_laid_out action_of blobfile_rule_next limits_of actions_of groups_of among limit_in_place action_laid_out blobfile_record placed_under in_place_under has_room_under keyed after_record record_fault_under acl_fault_under wanted_of blobfile_next certificates_of delegations_of request_from request_laid_out stands_alone request_record_fault use_of certificate_record delegation_record certificate_fault delegation_fault presented_record_fault after_presented presented_fault blobfile_request_record blobfile_follows request_fault hint_record hint_fault hints_fault serves holds chained delegated vouched raised_by charge admits_use admits_working admits_recovery admits limit_left no_wider actions_no_wider answers is_answered narrows_from lowest judge request clear narrow expand cabinet_request cabinet_load cabinet_clear cabinet_narrow cabinet_expand suite order_of bundle_record_laid_out bundle_in_place bundle_has_room bundle_record_fault listed_after bundle_end bundle_fault first_record numbered field lists listed signature_outcome policy_record policy_of km_vouched km_fips_vouched kre_vouched module_key recovery_key class_of policy_admits failure_under acl_failure action_protection smallest key_protection recoverable_key full_failure basic_failure desk_fault desk subject subject_fault subject_reply subject_buffer day_fault digits lines_from day_lines big_endian certificate_bytes hint_bytes parameters_bytes blob_request_bytes with_row bytes_of_answer asked_in_order run_fault run use_sets form_of prepare same_form prepared_fault prepared_run cabinet_run cabinet_prepared_run kept_below with_bits is_checked action_passes stays trimmed_record trimmed_from kept_indices hints_from trimmed_acl trim_hints trim_fault trim_reply trim_acl_buffer trim_hint_buffer
computing = 0
