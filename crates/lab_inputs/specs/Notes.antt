-- The line on `err` of a stop: what is wrong with a file, or which setting does not fit.
use Rattle.std.specs.Prelude.{List, [], ◌∷◌, ◌++◌, codes}
use Rattle.std.specs.Fmt.{decimal}
use Rattle.lab_io.specs.Piece.{fields_line}
use Rattle.lab_io.specs.Sink.{Text}
use Rattle.lab_model.specs.declared.fault.Refusal.{Refusal}
use Rattle.lab_model.specs.declared.fault.Kind.{Kind}
use Rattle.lab_model.specs.declared.fault.Kind.TheVariants as kind
use Rattle.lab_model.specs.declared.fault.Key.{Key}
use Rattle.lab_model.specs.declared.fault.Key.TheVariants as key
use Rattle.lab_inputs.specs.declared.stop.FileFault.{FileFault}
use Rattle.lab_inputs.specs.declared.stop.FileFault.TheVariants as fault
use Rattle.lab_inputs.specs.declared.stop.Setting.{Setting}
use Rattle.lab_inputs.specs.declared.stop.Setting.TheVariants as setting
use Rattle.lab_inputs.specs.declared.stop.Stop.{Stop}
use Rattle.lab_inputs.specs.declared.stop.Stop.TheVariants as stop
use Rattle.lab_inputs.specs.Roles.{role_row}

-- the word of a kind of fault
abbrev pub kind_word : Kind → Text
kind_word kind.NotJson = codes "not-json"
kind_word kind.NotCsv = codes "not-csv"
kind_word kind.MissingKey = codes "missing-key"
kind_word kind.WrongKind = codes "wrong-kind"
kind_word kind.NotWhole = codes "not-whole"
kind_word kind.OutOfRange = codes "out-of-range"
kind_word kind.Shape = codes "shape"
kind_word kind.Order = codes "order"
kind_word kind.Empty = codes "empty"
kind_word kind.TooSlow = codes "too-slow"
kind_word kind.CertLine = codes "bad-line"

-- the word of a key
abbrev pub key_word : Key → Text
key_word key.Whole = codes "whole"
key_word key.SegmentDuration = codes "segment_duration_ms"
key_word key.Bitrates = codes "bitrates_kbps"
key_word key.SegmentSizes = codes "segment_sizes_bits"
key_word key.Header = codes "header"
key_word key.Period = codes "period"
key_word key.Duration = codes "duration_ms"
key_word key.Bandwidth = codes "bandwidth_kbps"
key_word key.Latency = codes "latency_ms"
key_word key.Cycle = codes "cycle"
key_word key.SeekRow = codes "seek"
key_word key.SeekAt = codes "at_ms"
key_word key.SeekTo = codes "to_segment"
key_word key.Line = codes "line"
key_word key.Utility = codes "utility"

-- the kind of a refusal and its place
abbrev pub refusal_fields : Refusal → List Text
refusal_fields r = kind_word r.kind ∷ codes "at" ∷ key_word r.key ∷ codes "row" ∷ decimal r.row ∷ codes "column" ∷ decimal r.column ∷ []

-- what is wrong with a file
abbrev pub fault_fields : FileFault → List Text
fault_fields fault.NotRead = codes "not read" ∷ []
fault_fields fault.TooLong = codes "too long" ∷ []
fault_fields (fault.Refused why) = refusal_fields why

-- the words of a setting that does not fit
abbrev pub setting_fields : Setting → List Text
setting_fields setting.Buffer = codes "buffer" ∷ []
setting_fields setting.Utilities = codes "utilities" ∷ []
setting_fields (setting.Rule place) = codes "rule" ∷ decimal place ∷ []

-- the line of a stop
abbrev pub stop_note : Stop → Text
stop_note (stop.File role why) = codes "abrlab: " ++ ((role_row role).words ++ (codes " file: " ++ fields_line (fault_fields why)))
stop_note (stop.Settings setting) = codes "abrlab: settings: " ++ fields_line (setting_fields setting)
