-- A text is UTF-8, and `serde_json` escapes of it what the file escapes.
use Rattle.std.proofs.Common.{ap, ◌∙◌}
use Rattle.serde_json.specs.Data as Data
use Rattle.std.proofs.lemmas.Result.{IfOk-weaker}
use Rattle.focus_csv.proofs.JsonText.{string_written, text_is_utf8, value_written}
use Rattle.focus_csv.proofs.tags.json_of.Goals as goal

pub unreachable-requires : goal.unreachable-requires
unreachable-requires c = c.in_default.ensures.cases.0 (text_is_utf8 c.args.text.now c.requires)

pub returns : goal.returns
returns c =
    let text = c.args.text.now in
    IfOk-weaker c.to_vec.result _ _ (λ v is. value_written c.in_ok-string.string text v.items (c.in_ok-string.ensures ∙ ap Data.string c.in-Ok.ensures.cases.0) is ∙ string_written text c.requires) c.to_vec.ensures.text
