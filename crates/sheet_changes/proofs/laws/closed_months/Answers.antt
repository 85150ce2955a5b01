use Rattle.sheet_changes.proofs.laws.closed_months.Goals as goal

pub returns : goal.returns
returns c = record {
  files = λ voters observers agents old new issuer events day stays s has ends.
      c.months.ensures.files voters observers agents old new issuer events day stays.0 s has ends (λ at r found id named. stays.1 id);
}
