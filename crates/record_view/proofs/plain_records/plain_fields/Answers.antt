-- Each part in its turn, and behind the last bar the tags, which have none.
use Rattle.std.proofs.Common.{◌≡◌, true, is_some, ◌∷◌, sym, ap, ◌∙◌}
use Rattle.std.proofs.lemmas.Bool.{false≢true}
use Rattle.metering_model.specs.Dates.{stamp_in}
use Rattle.record_view.specs.Parts.{lent}
use Rattle.record_view.specs.Inner.TagParts.{are_tags}
use Rattle.record_view.proofs.PartLaws.{parts_whole}
use Rattle.record_view.proofs.PlainLaws.{plain_text}
use Rattle.record_view.proofs.PlainParts.{IsLeft, behind_part, behind_stamp, of_first, has_bar, last_left, not_there}
use Rattle.record_view.proofs.plain_records.plain_fields.Goals as goal

pub returns-then-are_plain_tags-clause-parts : goal.returns-then-are_plain_tags-clause-parts
returns-then-are_plain_tags-clause-parts c = λ stamps.
    let last = c.in_ok-commitment.ensures in
    let tags = parts_whole 124 (lent c.in_ok-commitment.tags) last.placed.1 (c.are_plain_tags.ensures.bars c.if-are_plain_tags.true) in
    c.in_ok-start.ensures.parts stamps.0
    ∙ ap (λ ps. lent c.in_ok-start.start ∷ ps) (c.in_ok-end.ensures.parts stamps.1
    ∙ ap (λ ps. lent c.in_ok-end.end ∷ ps) (c.in_ok-account.ensures.parts
    ∙ ap (λ ps. lent c.in_ok-account.account ∷ ps) (c.in_ok-resource.ensures.parts
    ∙ ap (λ ps. lent c.in_ok-resource.resource ∷ ps) (c.in_ok-key.ensures.parts
    ∙ ap (λ ps. lent c.in_ok-key.key ∷ ps) (c.in_ok-value.ensures.parts
    ∙ ap (λ ps. lent c.in_ok-value.value ∷ ps) (last.parts
    ∙ ap (λ ps. lent c.in_ok-commitment.commitment ∷ ps) tags))))))

pub returns-then-are_plain_tags-clause-plain : goal.returns-then-are_plain_tags-clause-plain
returns-then-are_plain_tags-clause-plain c = record {
  account = plain_text c.in_ok-account.account.text.now c.in_ok-account.ensures.plain;
  resource = plain_text c.in_ok-resource.resource.text.now c.in_ok-resource.ensures.plain;
  key = plain_text c.in_ok-key.key.text.now c.in_ok-key.ensures.plain;
  commitment = plain_text c.in_ok-commitment.commitment.text.now c.in_ok-commitment.ensures.plain;
  tags = c.are_plain_tags.ensures.tags c.if-are_plain_tags.true;
  placed = c.in_ok-commitment.ensures.placed.1;
}

pub returns-in_err-start-clause-none : goal.returns-in_err-start-clause-none
returns-in_err-start-clause-none c = not_there _ (λ h.
    let whole : IsLeft c.args.rest.text.now _ = record { plain = h.plain; are = h.fields } in
    of_first (λ t. is_some (stamp_in t) ≡ true → ⊥) (lent c.args.rest) _ _ _ whole.are c.in_err-start.ensures.none h.is_start)

pub returns-in_err-end-clause-none : goal.returns-in_err-end-clause-none
returns-in_err-end-clause-none c = not_there _ (λ h.
    let whole : IsLeft c.args.rest.text.now _ = record { plain = h.plain; are = h.fields } in
    let behind_start = behind_stamp (lent c.args.rest) (lent c.in_ok-start.start) (lent c.in_ok-start.rest) _ _ _ whole h.is_start c.in_ok-start.ensures.first c.in_ok-start.ensures.parts in
    of_first (λ t. is_some (stamp_in t) ≡ true → ⊥) (lent c.in_ok-start.rest) _ _ _ behind_start.1.are c.in_err-end.ensures.none h.is_end)

pub returns-in_err-account-clause-none : goal.returns-in_err-account-clause-none
returns-in_err-account-clause-none c = not_there _ (λ h.
    let whole : IsLeft c.args.rest.text.now _ = record { plain = h.plain; are = h.fields } in
    let behind_start = behind_stamp (lent c.args.rest) (lent c.in_ok-start.start) (lent c.in_ok-start.rest) _ _ _ whole h.is_start c.in_ok-start.ensures.first c.in_ok-start.ensures.parts in
    let behind_end = behind_stamp (lent c.in_ok-start.rest) (lent c.in_ok-end.end) (lent c.in_ok-end.rest) _ _ _ behind_start.1 h.is_end c.in_ok-end.ensures.first c.in_ok-end.ensures.parts in
    has_bar _ _ _ _ behind_end.1 c.in_err-account.ensures.none)

pub returns-in_err-resource-clause-none : goal.returns-in_err-resource-clause-none
returns-in_err-resource-clause-none c = not_there _ (λ h.
    let whole : IsLeft c.args.rest.text.now _ = record { plain = h.plain; are = h.fields } in
    let behind_start = behind_stamp (lent c.args.rest) (lent c.in_ok-start.start) (lent c.in_ok-start.rest) _ _ _ whole h.is_start c.in_ok-start.ensures.first c.in_ok-start.ensures.parts in
    let behind_end = behind_stamp (lent c.in_ok-start.rest) (lent c.in_ok-end.end) (lent c.in_ok-end.rest) _ _ _ behind_start.1 h.is_end c.in_ok-end.ensures.first c.in_ok-end.ensures.parts in
    let behind_account = behind_part (lent c.in_ok-end.rest) (lent c.in_ok-account.account) (lent c.in_ok-account.rest) _ _ behind_end.1 c.in_ok-account.ensures.parts in
    has_bar _ _ _ _ behind_account c.in_err-resource.ensures.none)

pub returns-in_err-key-clause-none : goal.returns-in_err-key-clause-none
returns-in_err-key-clause-none c = not_there _ (λ h.
    let whole : IsLeft c.args.rest.text.now _ = record { plain = h.plain; are = h.fields } in
    let behind_start = behind_stamp (lent c.args.rest) (lent c.in_ok-start.start) (lent c.in_ok-start.rest) _ _ _ whole h.is_start c.in_ok-start.ensures.first c.in_ok-start.ensures.parts in
    let behind_end = behind_stamp (lent c.in_ok-start.rest) (lent c.in_ok-end.end) (lent c.in_ok-end.rest) _ _ _ behind_start.1 h.is_end c.in_ok-end.ensures.first c.in_ok-end.ensures.parts in
    let behind_account = behind_part (lent c.in_ok-end.rest) (lent c.in_ok-account.account) (lent c.in_ok-account.rest) _ _ behind_end.1 c.in_ok-account.ensures.parts in
    let behind_resource = behind_part (lent c.in_ok-account.rest) (lent c.in_ok-resource.resource) (lent c.in_ok-resource.rest) _ _ behind_account c.in_ok-resource.ensures.parts in
    has_bar _ _ _ _ behind_resource c.in_err-key.ensures.none)

pub returns-in_err-value-clause-none : goal.returns-in_err-value-clause-none
returns-in_err-value-clause-none c = not_there _ (λ h.
    let whole : IsLeft c.args.rest.text.now _ = record { plain = h.plain; are = h.fields } in
    let behind_start = behind_stamp (lent c.args.rest) (lent c.in_ok-start.start) (lent c.in_ok-start.rest) _ _ _ whole h.is_start c.in_ok-start.ensures.first c.in_ok-start.ensures.parts in
    let behind_end = behind_stamp (lent c.in_ok-start.rest) (lent c.in_ok-end.end) (lent c.in_ok-end.rest) _ _ _ behind_start.1 h.is_end c.in_ok-end.ensures.first c.in_ok-end.ensures.parts in
    let behind_account = behind_part (lent c.in_ok-end.rest) (lent c.in_ok-account.account) (lent c.in_ok-account.rest) _ _ behind_end.1 c.in_ok-account.ensures.parts in
    let behind_resource = behind_part (lent c.in_ok-account.rest) (lent c.in_ok-resource.resource) (lent c.in_ok-resource.rest) _ _ behind_account c.in_ok-resource.ensures.parts in
    let behind_key = behind_part (lent c.in_ok-resource.rest) (lent c.in_ok-key.key) (lent c.in_ok-key.rest) _ _ behind_resource c.in_ok-key.ensures.parts in
    has_bar _ _ _ _ behind_key c.in_err-value.ensures.none)

pub returns-in_err-commitment-clause-none : goal.returns-in_err-commitment-clause-none
returns-in_err-commitment-clause-none c = not_there _ (λ h.
    let whole : IsLeft c.args.rest.text.now _ = record { plain = h.plain; are = h.fields } in
    let behind_start = behind_stamp (lent c.args.rest) (lent c.in_ok-start.start) (lent c.in_ok-start.rest) _ _ _ whole h.is_start c.in_ok-start.ensures.first c.in_ok-start.ensures.parts in
    let behind_end = behind_stamp (lent c.in_ok-start.rest) (lent c.in_ok-end.end) (lent c.in_ok-end.rest) _ _ _ behind_start.1 h.is_end c.in_ok-end.ensures.first c.in_ok-end.ensures.parts in
    let behind_account = behind_part (lent c.in_ok-end.rest) (lent c.in_ok-account.account) (lent c.in_ok-account.rest) _ _ behind_end.1 c.in_ok-account.ensures.parts in
    let behind_resource = behind_part (lent c.in_ok-account.rest) (lent c.in_ok-resource.resource) (lent c.in_ok-resource.rest) _ _ behind_account c.in_ok-resource.ensures.parts in
    let behind_key = behind_part (lent c.in_ok-resource.rest) (lent c.in_ok-key.key) (lent c.in_ok-key.rest) _ _ behind_resource c.in_ok-key.ensures.parts in
    let behind_value = behind_part (lent c.in_ok-key.rest) (lent c.in_ok-value.value) (lent c.in_ok-value.rest) _ _ behind_key c.in_ok-value.ensures.parts in
    has_bar _ _ _ _ behind_value c.in_err-commitment.ensures.none)

pub returns-else-are_plain_tags-clause-none : goal.returns-else-are_plain_tags-clause-none
returns-else-are_plain_tags-clause-none c = λ h.
    let whole : IsLeft c.args.rest.text.now _ = record { plain = h.plain; are = h.fields } in
    let behind_start = behind_stamp (lent c.args.rest) (lent c.in_ok-start.start) (lent c.in_ok-start.rest) _ _ _ whole h.is_start c.in_ok-start.ensures.first c.in_ok-start.ensures.parts in
    let behind_end = behind_stamp (lent c.in_ok-start.rest) (lent c.in_ok-end.end) (lent c.in_ok-end.rest) _ _ _ behind_start.1 h.is_end c.in_ok-end.ensures.first c.in_ok-end.ensures.parts in
    let behind_account = behind_part (lent c.in_ok-end.rest) (lent c.in_ok-account.account) (lent c.in_ok-account.rest) _ _ behind_end.1 c.in_ok-account.ensures.parts in
    let behind_resource = behind_part (lent c.in_ok-account.rest) (lent c.in_ok-resource.resource) (lent c.in_ok-resource.rest) _ _ behind_account c.in_ok-resource.ensures.parts in
    let behind_key = behind_part (lent c.in_ok-resource.rest) (lent c.in_ok-key.key) (lent c.in_ok-key.rest) _ _ behind_resource c.in_ok-key.ensures.parts in
    let behind_value = behind_part (lent c.in_ok-key.rest) (lent c.in_ok-value.value) (lent c.in_ok-value.rest) _ _ behind_key c.in_ok-value.ensures.parts in
    let behind_commitment = behind_part (lent c.in_ok-value.rest) (lent c.in_ok-commitment.commitment) (lent c.in_ok-commitment.tags) _ _ behind_value c.in_ok-commitment.ensures.parts in
    let last = last_left _ _ behind_commitment in
    false≢true (sym c.if-are_plain_tags.false ∙ c.are_plain_tags.ensures.all last.0 (ap are_tags (sym last.1) ∙ h.has_tags))

pub returns-then-are_plain_tags-clause-stamps : goal.returns-then-are_plain_tags-clause-stamps
returns-then-are_plain_tags-clause-stamps c = λ h.
    let whole : IsLeft c.args.rest.text.now _ = record { plain = h.plain; are = h.fields } in
    let behind_start = behind_stamp (lent c.args.rest) (lent c.in_ok-start.start) (lent c.in_ok-start.rest) _ _ _ whole h.is_start c.in_ok-start.ensures.first c.in_ok-start.ensures.parts in
    let behind_end = behind_stamp (lent c.in_ok-start.rest) (lent c.in_ok-end.end) (lent c.in_ok-end.rest) _ _ _ behind_start.1 h.is_end c.in_ok-end.ensures.first c.in_ok-end.ensures.parts in
    (behind_start.0, behind_end.0)

-- ---- what is handed on is placed, and nothing is told of a line that is not plain

pub split_stamp-requires : goal.split_stamp-requires
split_stamp-requires c = c.requires

pub split_stamp-requires-2 : goal.split_stamp-requires-2
split_stamp-requires-2 c = c.in_ok-start.ensures.placed

pub split_plain-requires : goal.split_plain-requires
split_plain-requires c = c.in_ok-end.ensures.placed

pub split_plain-requires-2 : goal.split_plain-requires-2
split_plain-requires-2 c = c.in_ok-account.ensures.placed.1

pub split_plain-requires-3 : goal.split_plain-requires-3
split_plain-requires-3 c = c.in_ok-resource.ensures.placed.1

pub split_plain-requires-4 : goal.split_plain-requires-4
split_plain-requires-4 c = c.in_ok-key.ensures.placed.1

pub split_plain-requires-5 : goal.split_plain-requires-5
split_plain-requires-5 c = c.in_ok-value.ensures.placed.1

pub are_plain_tags-requires : goal.are_plain_tags-requires
are_plain_tags-requires c = c.in_ok-commitment.ensures.placed.1

pub returns-in_err-start-clause-parts : goal.returns-in_err-start-clause-parts
returns-in_err-start-clause-parts c = rw c.from_residual.ensures tt

pub returns-in_err-start-clause-plain : goal.returns-in_err-start-clause-plain
returns-in_err-start-clause-plain c = rw c.from_residual.ensures tt

pub returns-in_err-start-clause-stamps : goal.returns-in_err-start-clause-stamps
returns-in_err-start-clause-stamps c = rw c.from_residual.ensures tt

pub returns-in_err-end-clause-parts : goal.returns-in_err-end-clause-parts
returns-in_err-end-clause-parts c = rw c.from_residual-in_err-end.ensures tt

pub returns-in_err-end-clause-plain : goal.returns-in_err-end-clause-plain
returns-in_err-end-clause-plain c = rw c.from_residual-in_err-end.ensures tt

pub returns-in_err-end-clause-stamps : goal.returns-in_err-end-clause-stamps
returns-in_err-end-clause-stamps c = rw c.from_residual-in_err-end.ensures tt

pub returns-in_err-account-clause-parts : goal.returns-in_err-account-clause-parts
returns-in_err-account-clause-parts c = rw c.from_residual-in_err-account.ensures tt

pub returns-in_err-account-clause-plain : goal.returns-in_err-account-clause-plain
returns-in_err-account-clause-plain c = rw c.from_residual-in_err-account.ensures tt

pub returns-in_err-account-clause-stamps : goal.returns-in_err-account-clause-stamps
returns-in_err-account-clause-stamps c = rw c.from_residual-in_err-account.ensures tt

pub returns-in_err-resource-clause-parts : goal.returns-in_err-resource-clause-parts
returns-in_err-resource-clause-parts c = rw c.from_residual-in_err-resource.ensures tt

pub returns-in_err-resource-clause-plain : goal.returns-in_err-resource-clause-plain
returns-in_err-resource-clause-plain c = rw c.from_residual-in_err-resource.ensures tt

pub returns-in_err-resource-clause-stamps : goal.returns-in_err-resource-clause-stamps
returns-in_err-resource-clause-stamps c = rw c.from_residual-in_err-resource.ensures tt

pub returns-in_err-key-clause-parts : goal.returns-in_err-key-clause-parts
returns-in_err-key-clause-parts c = rw c.from_residual-in_err-key.ensures tt

pub returns-in_err-key-clause-plain : goal.returns-in_err-key-clause-plain
returns-in_err-key-clause-plain c = rw c.from_residual-in_err-key.ensures tt

pub returns-in_err-key-clause-stamps : goal.returns-in_err-key-clause-stamps
returns-in_err-key-clause-stamps c = rw c.from_residual-in_err-key.ensures tt

pub returns-in_err-value-clause-parts : goal.returns-in_err-value-clause-parts
returns-in_err-value-clause-parts c = rw c.from_residual-in_err-value.ensures tt

pub returns-in_err-value-clause-plain : goal.returns-in_err-value-clause-plain
returns-in_err-value-clause-plain c = rw c.from_residual-in_err-value.ensures tt

pub returns-in_err-value-clause-stamps : goal.returns-in_err-value-clause-stamps
returns-in_err-value-clause-stamps c = rw c.from_residual-in_err-value.ensures tt

pub returns-in_err-commitment-clause-parts : goal.returns-in_err-commitment-clause-parts
returns-in_err-commitment-clause-parts c = rw c.from_residual-in_err-commitment.ensures tt

pub returns-in_err-commitment-clause-plain : goal.returns-in_err-commitment-clause-plain
returns-in_err-commitment-clause-plain c = rw c.from_residual-in_err-commitment.ensures tt

pub returns-in_err-commitment-clause-stamps : goal.returns-in_err-commitment-clause-stamps
returns-in_err-commitment-clause-stamps c = rw c.from_residual-in_err-commitment.ensures tt

pub returns-else-are_plain_tags-clause-parts : goal.returns-else-are_plain_tags-clause-parts
returns-else-are_plain_tags-clause-parts c = tt

pub returns-else-are_plain_tags-clause-plain : goal.returns-else-are_plain_tags-clause-plain
returns-else-are_plain_tags-clause-plain c = tt

pub returns-else-are_plain_tags-clause-stamps : goal.returns-else-are_plain_tags-clause-stamps
returns-else-are_plain_tags-clause-stamps c = tt

pub returns-then-are_plain_tags-clause-none : goal.returns-then-are_plain_tags-clause-none
returns-then-are_plain_tags-clause-none c = tt
