use Rattle.std.proofs.Common.{◌+◌, [], ◌++◌, ap, ◌∙◌, append_assoc}
use Rattle.std.specs.List.{flat_map}
use Rattle.std.proofs.lemmas.Result.{on_ok_weaker}
use Rattle.metering_model.specs.BatchReading.{lines_in}
use Rattle.fault_lines.specs.UnknownKeys.{keys_left, told_along, told_unknown}
use Rattle.fault_lines.proofs.ToldPieces.{put_one}
use Rattle.fault_lines.proofs.key_lines.put_left.Goals as goal

pub returns : goal.returns
returns c =
    let told = c.args.told.now.items in
    let n = c.args.opening in
    let keys = c.args.keys.now.items in
    let lines = (lines_in c.args.text.now).lines in
    let left = flat_map (told_unknown n) (keys_left [] keys lines) in
    let later = told_along (n + 1) [] keys lines in
    let along = c.deref-2.ensures.value ∙ c.in-Ok.ensures.told ∙ ap (λ t. t ++ later) c.requires in
    let each =
    c.in-Ok-put_each.ensures
    ∙ ap (λ m. told ++ flat_map (told_unknown m) c.deref.result.now) c.from.ensures
    ∙ ap (λ ks. told ++ flat_map (told_unknown n) ks) (c.deref.ensures.value ∙ c.in-Ok.ensures.left) in
    on_ok_weaker c.extend_from_slice.result (λ put. put ∙ ap (λ t. t ++ later) each ∙ append_assoc told left later)
    (put_one c.extend_from_slice.result c.put_each.new.told.items c.extend_from_slice.new.self.items c.deref-2.result.now later along c.extend_from_slice.ensures.items)
