use Rattle.std.proofs.Common.{◌≡◌, ◌∙◌, ◌++◌, List, ℕ, OnOk, OnErr, ap₂, subst}
use Rattle.std.specs.Io.KnownBytes.{Appends}
use Rattle.counted_io.specs.Writing.{AppendsPrefix}
use Rattle.command_line.specs.Inner.Parts.{first_part, last_part}
use Rattle.command_line.proofs.PartLaws.{first_not_told, told_in_two}
use Rattle.command_line.proofs.statuses.tell.Goals as goal

pub returns-in_err-write_all : goal.returns-in_err-write_all
returns-in_err-write_all g c =
    let first : c.as_slice.result.now ≡ first_part c.args.fault.now = c.as_slice.ensures ∙ c.line_of.ensures in
    let sink = g.W.Sink in
    let errors = c.args.writer.now in
    let between = c.write_all.new.sink in
    record {
      told =
          first_not_told sink c.args.fault.now errors between (subst (AppendsPrefix (sink.contents errors) (sink.contents between)) first c.in_err-write_all.ensures.prefix)
          c.in_err-write_all.ensures.count;
    }

pub returns : goal.returns
returns g c =
    let first : c.as_slice.result.now ≡ first_part c.args.fault.now = c.as_slice.ensures ∙ c.line_of.ensures in
    let last : c.words_of.result.now ++ c.end_of.result.now ≡ last_part c.args.fault.now = ap₂ (λ (a b : List ℕ). a ++ b) c.words_of.ensures c.end_of.ensures in
    let sink = g.W.Sink in
    let errors = c.args.writer.now in
    let between = c.write_all.new.sink in
    let behind = c.write_both.new.writer in
    record {
      told =
          told_in_two sink c.args.fault.now errors between behind c.write_both.result
          (subst (Appends (sink.contents errors) (sink.contents between)) first c.in_ok-write_all.ensures.written) c.in_ok-write_all.ensures.count
          (subst (λ (text : List ℕ). OnOk c.write_both.result (Appends (sink.contents between) (sink.contents behind) text)) last c.write_both.ensures.written)
          (subst (λ (text : List ℕ). OnErr c.write_both.result (AppendsPrefix (sink.contents between) (sink.contents behind) text)) last c.write_both.ensures.prefix)
          c.write_both.ensures.count;
    }
