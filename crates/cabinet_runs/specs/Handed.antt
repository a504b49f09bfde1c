-- The outcome of a run in a slot, as the definitions have it.
use Rattle.rules.specs.Basics.{Bytes}
use Rattle.rules.specs.Numbers.{no_slot}
use Rattle.rules.specs.Cabinet as rules
use Rattle.rules.specs.Runs.{refused_whole}
use Rattle.runs.specs.Judged.{run_reply_as}
use Rattle.cabinet.specs.Kept.{cabinet_as}
use Rattle.rules.specs.CabinetRuns as defined
use Rattle.cabinet_runs.specs.declared.CabinetRan.{CabinetRan}

-- with the buffer afterwards
abbrev pub cabinet_ran_as : CabinetRan → Bytes → defined.CabinetRan
cabinet_ran_as r buffer = record { reply = run_reply_as r.reply; cabinet = cabinet_as r.cabinet; buffer = buffer }

-- no such slot; cabinet and buffer are unchanged
abbrev pub not_run : rules.Cabinet → Bytes → defined.CabinetRan
not_run c buffer = record { reply = refused_whole no_slot; cabinet = c; buffer = buffer }
