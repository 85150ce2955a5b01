-- A line is its pieces, one behind the other.
use Rattle.std.proofs.Common.{◌≡◌, ℕ, ◌<◌, ◌^◌, List, [], ◌∷◌, ◌++◌, map, ℤ, unsigned_abs, string_bytes, refl, sym, ap, ap₂, ◌∙◌, append_assoc}
use Rattle.std.specs.List.{flat_map, join_with_byte}
use Rattle.std.proofs.lemmas.List.{append-nil}
use Rattle.std.proofs.lemmas.Grind.{flat_map-append}
use Rattle.metering_model.specs.NumberText.{spelling}
use Rattle.metering_model.specs.Row.{Row}
use Rattle.metering_model.specs.File.{quoted, row_text, text_or_null}
use Rattle.metering_model.proofs.LineFeeds.{spelling_quoted}
use Rattle.focus_csv.specs.declared.pieces.LinePieces.{LinePieces}
use Rattle.focus_csv.specs.Inner.Pieces.{AreOf, piece_list}
use Rattle.focus_csv.specs.Inner.Runs.{behind, line_runs, billing_columns, charge_columns, moment_columns, seller_columns, region_columns, service_columns}

joined : (f : List ℕ) (fs : List (List ℕ)) → join_with_byte 44 (map quoted (f ∷ fs)) ≡ quoted f ++ behind fs
joined f [] = sym (append-nil (quoted f))
joined f (g ∷ fs) = ap (λ t. quoted f ++ 44 ∷ t) (joined g fs)

runs_joined : (runs : List (List (List ℕ))) → flat_map (λ t. t) (map behind runs) ≡ behind (flat_map (λ r. r) runs)
runs_joined [] = refl
runs_joined (r ∷ rs) = ap (λ t. behind r ++ t) (runs_joined rs) ∙ sym (flat_map-append (λ f. 44 ∷ quoted f) r (flat_map (λ x. x) rs))

line_is : (r : Row) → (quoted (spelling 12 r.billed_cost) ++ flat_map (λ t. t) (map behind (line_runs r))) ++ 10 ∷ [] ≡ row_text r
unfolding billing_columns charge_columns moment_columns seller_columns region_columns service_columns
line_is r =
    let first = spelling 12 r.billed_cost in
    ap (λ t. t ++ 10 ∷ [])
    (ap (λ t. quoted first ++ t) (runs_joined (line_runs r)) ∙ sym (joined first (flat_map (λ x. x) (line_runs r))))

-- the line of the pieces of a row
pub line_of_all : (p : LinePieces) (r : Row) → AreOf p r → flat_map (λ x. x) (piece_list p) ≡ row_text r
line_of_all p r are =
    let n = are.numbers in
    let t = are.texts in
    let rest : List (List ℕ) =
    p.texts.billing.items ∷ p.texts.charge.items ∷ p.texts.moment.items ∷ string_bytes p.numbers.consumed_quantity ∷ p.texts.unit.items
    ∷ string_bytes p.numbers.contracted_cost ∷ string_bytes p.numbers.contracted_unit_price ∷ string_bytes p.numbers.effective_cost ∷ p.texts.issuer.items
    ∷ string_bytes p.numbers.list_cost ∷ string_bytes p.numbers.list_unit_price ∷ p.texts.category.items ∷ string_bytes p.numbers.pricing_quantity
    ∷ p.texts.pricing.items ∷ p.texts.seller.items ∷ p.texts.region.items ∷ p.texts.resource.items ∷ p.texts.service.items ∷ p.texts.account.items ∷ p.tags.items
    ∷ [] in
    let first = string_bytes p.numbers.billed_cost in
    let is : rest ≡ map behind (line_runs r) =
    λ i. t.billing i ∷ t.charge i ∷ t.moment i ∷ n.consumed_quantity i ∷ t.unit i ∷ n.contracted_cost i ∷ n.contracted_unit_price i ∷ n.effective_cost i ∷ t.issuer i
    ∷ n.list_cost i ∷ n.list_unit_price i ∷ t.category i ∷ n.pricing_quantity i ∷ t.pricing i ∷ t.seller i ∷ t.region i ∷ t.resource i ∷ t.service i ∷ t.account i
    ∷ are.tags i ∷ [] in
    ap (λ l. first ++ l) (flat_map-append (λ x. x) rest ((10 ∷ []) ∷ []))
    ∙ sym (append_assoc first (flat_map (λ x. x) rest) (10 ∷ []))
    ∙ ap₂ (λ f ps. (f ++ flat_map (λ x. x) ps) ++ 10 ∷ []) n.billed_cost is
    ∙ line_is r

-- the columns of where it was
pub region_fields : (r : Row) → region_columns r ≡ text_or_null r.region_id ∷ text_or_null r.region_name ∷ []
unfolding region_columns
region_fields r = refl

-- ---- numbers

pub first_quoted : (places : ℕ) (n : ℤ) → unsigned_abs n < 10 ^ 64 → spelling places n ≡ quoted (spelling places n)
first_quoted places n small = sym (spelling_quoted places n small)

pub number_behind : (places : ℕ) (n : ℤ) → unsigned_abs n < 10 ^ 64 → 44 ∷ spelling places n ≡ behind (spelling places n ∷ [])
number_behind places n small = ap (λ t. 44 ∷ t) (first_quoted places n small) ∙ sym (append-nil (44 ∷ quoted (spelling places n)))
