use Rattle.std.proofs.Common.{◌≡◌, ◌≤◌, ◌∙◌, ℕ, List, ◌++◌, take, drop, Option, sym, ap, subst, arith}
use Rattle.std.specs.Io.KnownBytes.{Appends}
use Rattle.std.proofs.Math.Seq.{take-append_seam}
use Rattle.counted_io.specs.Writing.{AppendsPrefix}
use Rattle.line_source.specs.Lines.{AreInFront, IsShareOf}
use Rattle.metering_model.specs.Schedule.{lines_text}
use Rattle.period_file.specs.Inner.Reading.{CopiesAhead, StopsAhead}
use Rattle.period_file.proofs.files.copy_ahead.Goals as goal

-- lines at the beginning of what is ahead, which was asked for twice
module _ {text again ahead : List ℕ} {count at : ℕ} (is : text ≡ ahead) (is_too : again ≡ ahead) (lines : AreInFront text count at) where
  prefix : AreInFront ahead count at
  prefix = subst (λ (t : List ℕ). AreInFront t count at) is lines

  are_lines : take at again ≡ lines_text prefix.lines
  are_lines =
      ap (take at) (is_too ∙ prefix.split) ∙ ap (λ n. take n (lines_text prefix.lines ++ drop at ahead)) (sym prefix.size)
      ∙ take-append_seam (lines_text prefix.lines) (drop at ahead)

  copied : {v w : Option (List ℕ)} {rest : List ℕ} → Appends v w (take at again) → rest ≡ drop at ahead → CopiesAhead count ahead rest v w
  copied {v} {w} written left = record {
    lines = prefix.lines;
    whole = prefix.whole;
    counted = prefix.counted;
    split = prefix.split ∙ ap (λ r. lines_text prefix.lines ++ r) (sym left);
    appended = subst (Appends v w) are_lines written;
  }

  stopped : {v w : Option (List ℕ)} {most : ℕ} → count ≤ most → AppendsPrefix v w (take at again) → StopsAhead most ahead v w
  stopped {v} {w} few written = record {
    lines = prefix.lines;
    rest = drop at ahead;
    whole = prefix.whole;
    few = let counted = prefix.counted in omega (arith, few, counted);
    split = prefix.split;
    appended = subst (AppendsPrefix v w) are_lines written;
  }

pub returns-in_default-clause-stopped : goal.returns-in_default-clause-stopped
returns-in_default-clause-stopped g c = stopped c.ahead.ensures c.ahead-2.ensures c.lines_in_front-length.ensures.lines c.lines_in_front-length.ensures.share.few c.in_default.ensures.prefix

pub returns-in_default-clause-count : goal.returns-in_default-clause-count
returns-in_default-clause-count g c = c.in_default.ensures.count

pub returns-clause-copied : goal.returns-clause-copied
returns-clause-copied g c = copied c.ahead.ensures c.ahead-2.ensures c.lines_in_front-length.ensures.lines c.in-Ok.ensures.written c.take.ensures.bytes

pub returns-clause-share : goal.returns-clause-share
returns-clause-share g c = subst (λ (t : List ℕ). IsShareOf c.args.most t c.lines_in_front-length.result.1) c.ahead.ensures c.lines_in_front-length.ensures.share

pub returns-clause-count : goal.returns-clause-count
returns-clause-count g c = c.in-Ok.ensures.count
