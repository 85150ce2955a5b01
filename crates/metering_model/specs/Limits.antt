-- Each limit of a text or of the group, by one name. Where the rule is from stands behind each: a heading of the repository's
-- page of formats (docs/formats.md), whose table "Limits" says what is answered beyond it. The limits of decimals stand in NumberText.
use Rattle.std.specs.Prelude.{ℕ}

-- bytes of a batch's text (Batches)
abbrev pub most_batch_bytes : ℕ
most_batch_bytes = 65_536

-- records of a batch, amendments among them (Batches)
abbrev pub most_records : ℕ
most_records = 1_000

-- the index of a batch's last record, where the first has 0 (Batches)
abbrev pub last_index : ℕ
last_index = 999

-- agents of a group, numbered from 1 (Batches; Schedules and transcripts)
abbrev pub most_agents : ℕ
most_agents = 64

-- the greatest sequence of a batch, counted from 1: so many batches an agent may journal (Batches)
abbrev pub last_sequence : ℕ
last_sequence = 1_000_000

-- batches of a group, `last_sequence` of each of `most_agents` (What a node keeps)
abbrev pub most_batches : ℕ
most_batches = 64_000_000

-- billing periods of a group (Limits)
abbrev pub most_periods : ℕ
most_periods = 1_200

-- the last billing period, counted from 0 (Schedules and transcripts; The program)
abbrev pub last_period : ℕ
last_period = 1_199

-- the last year of a day, a moment or a month; the first is the year 1 (Days and moments)
abbrev pub last_year : ℕ
last_year = 9_999

-- the base months of a sheet, January 2000 to December 2100, counted from January of the year 0 (Price sheet and issuer)
abbrev pub first_base_month : ℕ
first_base_month = 24_000

abbrev pub last_base_month : ℕ
last_base_month = 25_211

-- nodes of a group, observers among them (Schedules and transcripts)
abbrev pub most_nodes : ℕ
most_nodes = 99

-- the last node, numbered from 0 (Schedules and transcripts)
abbrev pub last_node : ℕ
last_node = 98

-- rounds that a node begins, each with a ballot of its own (What a node keeps)
abbrev pub most_rounds : ℕ
most_rounds = 10_000

-- the greatest ballot: of the last of `most_nodes` voters, in the last of `most_rounds` (What a node keeps)
abbrev pub last_ballot : ℕ
last_ballot = 990_098

-- packets of a group, batches among them (Limits)
abbrev pub most_packets : ℕ
most_packets = 1_000_000

-- the last packet, numbered from 0 (Schedules and transcripts)
abbrev pub last_packet : ℕ
last_packet = 999_999

-- price rows of a sheet, and so many commitments and regions (Price sheet and issuer)
abbrev pub most_sheet_rows : ℕ
most_sheet_rows = 10_000

-- metered units of one priced unit (Price sheet and issuer)
abbrev pub most_units : ℕ
most_units = 1_000_000_000

-- millionths of one: of a price of 1 in the currency, by which an amount is billed (Decimals)
abbrev pub one_in_millionths : ℕ
one_in_millionths = 1_000_000

-- lines of a sheet (Schedules and transcripts; The program)
abbrev pub most_sheet_lines : ℕ
most_sheet_lines = 200_000

-- lines of an issuer (Schedules and transcripts; The program)
abbrev pub most_issuer_lines : ℕ
most_issuer_lines = 100

-- lines of a journal: a head line, and one for each of `most_records` (Schedules and transcripts)
abbrev pub most_journal_lines : ℕ
most_journal_lines = 1_001

-- lines of a revival (Schedules and transcripts)
abbrev pub most_revival_lines : ℕ
most_revival_lines = 200_000

-- bytes of an input, but of `file`, and of what stands before the log of a `node` or an `agent` (The program)
abbrev pub most_input_bytes : ℕ
most_input_bytes = 16_777_216

-- bytes of an input of `file`, which is a transcript, and of a log and of each command of `node` and `agent` (The program)
abbrev pub most_transcript_bytes : ℕ
most_transcript_bytes = 4_294_967_296
