-- What is passed of the parts is plain, and the last one, in which the scan finds no end, is the only one that is left.
use Rattle.std.proofs.Common.{◌≡◌, ◌+◌, ◌==◌, Option, Some, None, is_some, List, ℕ, Bor, length, take, refl, ◌∙◌, sym, ap, arith}
use Rattle.std.specs.List.{list_any, position}
use Rattle.std.specs.Option.{option_copied}
use Rattle.std.proofs.lemmas.Bool.{false≢true}
use Rattle.std.proofs.lemmas.List.{take_all}
use Rattle.record_view.specs.Parts.{LentText, lent, parts_at}
use Rattle.record_view.specs.Inner.Placed.{IsPlaced, back_of}
use Rattle.record_view.specs.Inner.Plain.{stops_at}
use Rattle.record_view.specs.Plain.{is_plain}
use Rattle.record_view.specs.Inner.TagParts.{key_in, if_above, rise_from}
use Rattle.record_view.proofs.PartLaws.{found_at, parts_cut, parts_found, placed_cut}
use Rattle.record_view.proofs.PlainLaws.{plain_no_bar, first_is, front_plain, bars_behind, none_found}
use Rattle.record_view.proofs.PlainTags.{all_plain, plain_behind, stops_at_byte}
use Rattle.record_view.proofs.TagLaws.{last_rises}
use Rattle.record_view.proofs.tags.plain_keys_rise.Goals as goal

some_copied : (o : Option (Bor (List ℕ))) → is_some (option_copied o) ≡ is_some o
some_copied None = refl
some_copied (Some x) = refl

take_whole : (t : List ℕ) → take (length t) t ≡ t
take_whole t = take_all (length t) t (omega arith)

-- the last part, of which a look has passed each byte
last_part_rises : (last : List ℕ) (rest : LentText) (key : Option (Bor (List ℕ))) → IsPlaced rest → position (stops_at 59) rest.text ≡ None
    → option_copied key ≡ if_above last (key_in (take (length rest.text) rest.text)) → rise_from (Some last) (parts_at 59 rest) ≡ is_some key
last_part_rises last rest key placed none is =
    last_rises last rest placed (none_found 59 rest.text none)
    ∙ ap (λ t. is_some (if_above last (key_in t))) (sym (take_whole rest.text))
    ∙ ap is_some (sym is)
    ∙ some_copied key

pub plain_key_above-requires-clause-plain : goal.plain_key_above-requires-clause-plain
plain_key_above-requires-clause-plain c = front_plain 59 c.loop-end.rest.text.now c.in-Some.end (sym c.in-Some.ensures)

pub loop-end-preserved : goal.loop-end-preserved
loop-end-preserved c =
    let rest = lent c.loop-end.rest in
    let end = c.in-Some.end in
    let behind = lent c.cut.result.1 in
    let at = sym c.in-Some.ensures in
    let within = (found_at (stops_at 59) rest.text end at).1 in
    let cut = parts_cut 59 end rest _ _ c.cut.ensures.before c.cut.ensures.after (first_is 59 rest.text end at c.if-rest-end-ne59.false) in
    let key = ap (λ t. if_above c.loop-end.last.now (key_in t.text)) c.cut.ensures.before ∙ sym c.in-Some-plain_key_above.ensures in
    record {
      placed = (placed_cut end rest _ _ c.cut.ensures.before c.cut.ensures.after c.loop-end.invariant.placed within).1;
      rises =
          sym (ap (λ o. rise_from o (parts_at 59 behind)) key)
          ∙ sym (ap (rise_from (Some c.loop-end.last.now)) cut)
          ∙ c.loop-end.invariant.rises;
      bars =
          c.loop-end.invariant.bars
          ∙ bars_behind rest.text end within (front_plain 59 rest.text end at) (ap (λ x. x == 124) c.if-rest-end-ne59.false)
          ∙ ap (λ t. list_any (λ x. x == 124) t.text) (sym c.cut.ensures.after);
      plain = λ all. ap (λ t. is_plain t.text) c.cut.ensures.after ∙ plain_behind rest.text (end + 1) (c.loop-end.invariant.plain all);
    }

pub plain_key_above-requires-2-clause-plain : goal.plain_key_above-requires-2-clause-plain
plain_key_above-requires-2-clause-plain c =
    let rest = c.loop-end.rest.text.now in
    ap is_plain (take_whole rest) ∙ all_plain 59 rest (sym c.in_default.ensures)

pub returns-clause-rise : goal.returns-clause-rise
returns-clause-rise c = λ yes.
    let last = last_part_rises c.loop-end.last.now (lent c.loop-end.rest) c.plain_key_above-2.result c.loop-end.invariant.placed (sym c.in_default.ensures) c.plain_key_above-2.ensures in
    sym c.loop-end.invariant.rises ∙ last ∙ sym c.is_some.ensures ∙ yes

pub returns-clause-bars : goal.returns-clause-bars
returns-clause-bars c = λ yes.
    let rest = c.loop-end.rest.text.now in
    c.loop-end.invariant.bars ∙ plain_no_bar rest (all_plain 59 rest (sym c.in_default.ensures))

pub returns-then-rest-end-ne59-clause-all : goal.returns-then-rest-end-ne59-clause-all
returns-then-rest-end-ne59-clause-all c = λ plain rise.
    let at = sym c.in-Some.ensures in
    absurd (false≢true (sym (stops_at_byte 59 c.loop-end.rest.text.now c.in-Some.end at c.if-rest-end-ne59.true) ∙ c.loop-end.invariant.plain plain))

pub returns-in-None-clause-all : goal.returns-in-None-clause-all
returns-in-None-clause-all c = λ plain rise.
    let rest = lent c.loop-end.rest in
    let end = c.in-Some.end in
    let at = first_is 59 rest.text end (sym c.in-Some.ensures) c.if-rest-end-ne59.false in
    ap (λ o. rise_from o (parts_at 59 (back_of end rest))) c.in-None.ensures
    ∙ sym (ap (rise_from (Some c.loop-end.last.now)) (parts_found 59 end rest at))
    ∙ c.loop-end.invariant.rises
    ∙ rise

pub returns-clause-all : goal.returns-clause-all
returns-clause-all c = λ plain rise.
    let last = last_part_rises c.loop-end.last.now (lent c.loop-end.rest) c.plain_key_above-2.result c.loop-end.invariant.placed (sym c.in_default.ensures) c.plain_key_above-2.ensures in
    c.is_some.ensures ∙ sym last ∙ c.loop-end.invariant.rises ∙ rise
