-- A text that begins with the word has a section of an issuer.
use Rattle.std.proofs.Common.{rules}
use Rattle.input_sections.proofs.rates.issuer_or_sample.Goals as goal

pub returns-then-begins_with-clause-taken : goal.returns-then-begins_with-clause-taken
returns-then-begins_with-clause-taken c = search rules
