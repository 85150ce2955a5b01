-- One tag less is left, and in the end none.
use Rattle.std.proofs.Common.{◌≡◌, ◌∷◌, ◌++◌, [], map, sym, ap, ◌∙◌, rules}
use Rattle.std.proofs.lemmas.List.{append-nil}
use Rattle.metering_model.specs.File.{json_member}
use Rattle.record_view.specs.Lent.{lent_tags, lent_pair}
use Rattle.record_view.specs.TagTexts.{tag_of}
use Rattle.focus_csv.specs.Inner.Strings.{are_plain, doubled}
use Rattle.focus_csv.proofs.JsonText.{next_texts}
use Rattle.focus_csv.proofs.PlainTags.{all_plain, next_plain}
use Rattle.focus_csv.proofs.TagTexts.{first_doubled, members_left, one_less_doubled, plain_object}
use Rattle.focus_csv.proofs.tags.set_tags.Goals as goal

pub put_tag-requires-clause-key : goal.put_tag-requires-clause-key
put_tag-requires-clause-key c = (next_texts c.args.tags _ _ c.in-Some.ensures.steps).0

pub put_tag-requires-clause-value : goal.put_tag-requires-clause-value
put_tag-requires-clause-value c = (next_texts c.args.tags _ _ c.in-Some.ensures.steps).1

pub put_tag-requires-clause-plain : goal.put_tag-requires-clause-plain
put_tag-requires-clause-plain c = λ yes.
    let first = tag_of (lent_pair (c.in-Some.key, c.in-Some.value)) in
    let rest = map tag_of (lent_tags c.next.new.self) in
    let all = all_plain c.text.result.now (map tag_of (lent_tags c.args.tags)) c.is_odd-is_plain.result c.text.ensures c.is_odd-is_plain.ensures yes in
    let plain = next_plain first rest (sym (ap (λ ts. are_plain (map tag_of ts)) c.in-Some.ensures.steps) ∙ all) in
    (plain.0, plain.1)

pub loop-key-init : goal.loop-key-init
loop-key-init c =
    let first = tag_of (lent_pair (c.in-Some.key, c.in-Some.value)) in
    let rest = map tag_of (lent_tags c.next.new.self) in
    let piece = c.put_tag.new.piece.items in
    let put : piece ≡ 44 ∷ 34 ∷ 123 ∷ doubled (json_member first) =
    c.in_ok-put_tag.ensures ∙ ap (λ t. t ++ 44 ∷ 34 ∷ 123 ∷ doubled (json_member first)) c.clear.ensures.items in
    record {
      ready = search rules;
      finite = search rules;
      some = (first, rest, ap (map tag_of) c.in-Some.ensures.steps);
      plain = λ yes.
          let all = all_plain c.text.result.now (map tag_of (lent_tags c.args.tags)) c.is_odd-is_plain.result c.text.ensures c.is_odd-is_plain.ensures yes in
          ap (λ ts. are_plain (map tag_of (lent_tags ts))) c.into_iter-key-iterator.ensures.into_iter_gives
          ∙ (next_plain first rest (sym (ap (λ ts. are_plain (map tag_of ts)) c.in-Some.ensures.steps) ∙ all)).2;
      text =
          ap (λ ts. piece ++ doubled (members_left (44 ∷ []) (map tag_of (lent_tags ts)))) c.into_iter-key-iterator.ensures.into_iter_gives
          ∙ ap (λ t. t ++ doubled (members_left (44 ∷ []) rest)) put
          ∙ ap (λ t. 44 ∷ 34 ∷ 123 ∷ t) (first_doubled first rest)
          ∙ ap (λ ts. 44 ∷ 34 ∷ 123 ∷ doubled (members_left [] (map tag_of ts))) (sym c.in-Some.ensures.steps);
    }

pub put_tag-requires-in-loop-key-clause-key : goal.put_tag-requires-in-loop-key-clause-key
put_tag-requires-in-loop-key-clause-key c = (next_texts c.loop-key.key-iterator _ _ c.in-Some-2.ensures.steps).0

pub put_tag-requires-in-loop-key-clause-value : goal.put_tag-requires-in-loop-key-clause-value
put_tag-requires-in-loop-key-clause-value c = (next_texts c.loop-key.key-iterator _ _ c.in-Some-2.ensures.steps).1

pub put_tag-requires-in-loop-key-clause-plain : goal.put_tag-requires-in-loop-key-clause-plain
put_tag-requires-in-loop-key-clause-plain c = λ yes.
    let tag = tag_of (lent_pair (c.in-Some-2.key, c.in-Some-2.value)) in
    let left = map tag_of (lent_tags c.next-in-loop-key.new.self) in
    let plain = next_plain tag left (sym (ap (λ ts. are_plain (map tag_of ts)) c.in-Some-2.ensures.steps) ∙ c.loop-key.invariant.plain yes) in
    (plain.0, plain.1)

pub loop-key-preserved : goal.loop-key-preserved
loop-key-preserved c =
    let tag = tag_of (lent_pair (c.in-Some-2.key, c.in-Some-2.value)) in
    let left = map tag_of (lent_tags c.next-in-loop-key.new.self) in
    let piece = c.loop-key.piece.items in
    record {
      ready = search rules;
      finite = search rules;
      some = c.loop-key.invariant.some;
      plain = λ yes. (next_plain tag left (sym (ap (λ ts. are_plain (map tag_of ts)) c.in-Some-2.ensures.steps) ∙ c.loop-key.invariant.plain yes)).2;
      text =
          ap (λ t. t ++ doubled (members_left (44 ∷ []) left)) c.in_ok-put_tag-2.ensures
          ∙ one_less_doubled piece tag left
          ∙ ap (λ ts. piece ++ doubled (members_left (44 ∷ []) (map tag_of ts))) (sym c.in-Some-2.ensures.steps)
          ∙ c.loop-key.invariant.text;
    }

pub returns : goal.returns
returns c =
    let so = c.loop-key.invariant in
    let piece = c.loop-key.piece.items in
    let written : piece ≡ 44 ∷ 34 ∷ 123 ∷ doubled (members_left [] (map tag_of (lent_tags c.args.tags))) =
    sym (append-nil piece)
    ∙ ap (λ ts. piece ++ doubled (members_left (44 ∷ []) (map tag_of ts))) (sym c.in-None.ensures.steps.0)
    ∙ so.text in
    c.in_ok-extend_from_slice-2.ensures.items ∙ plain_object (map tag_of (lent_tags c.args.tags)) so.some.0 so.some.1 piece so.some.2 written
