-- Whether all bytes of a part are printable ASCII, from the mask of those that are not.
use Rattle.std.proofs.Common.{◌≡◌, ℕ, zero, suc, ◌+◌, ◌*◌, ◌%◌, ◌^◌, ◌≤◌, ◌==◌, Bool, true, false, not, cond, ◌&&◌, List, [], ◌∷◌, map, length, take, drop, get_or, Fits, w8, refl, sym, ap, ◌∙◌, arith}
use Rattle.std.specs.List.{list_all}
use Rattle.std.proofs.lemmas.Bool.{agree_below, agree_below_at, ne_eqb}
use Rattle.std.proofs.lemmas.List.{length-map}
use Rattle.std.proofs.lemmas.Simd.{map-map, mask_l-mod}
use Rattle.metering_model.specs.Batch.{is_text_byte, is_text}
use lib.Lanes.{mask_l, top}

-- the mask is empty just where no test is passed
none_set : (p : ℕ → Bool) (cs : List ℕ) → (mask_l (map p cs) == 0) ≡ list_all (λ c. not (p c)) cs
none_set p [] = refl
none_set p (c ∷ cs) = of_first (p c) (mask_l (map p cs)) ∙ ap (λ all. not (p c) && all) (none_set p cs)
  where
    of_first : (b : Bool) (m : ℕ) → (cond b 1 0 + 2 * m == 0) ≡ (not b && (m == 0))
    of_first true m = ne_eqb (1 + 2 * m) 0 (λ e. absurd (omega (arith, e)))
    of_first false zero = refl
    of_first false (suc m) = ne_eqb (0 + 2 * suc m) 0 (λ e. absurd (omega (arith, e))) ∙ sym (ne_eqb (suc m) 0 (λ e. absurd (omega (arith, e))))

-- two tests that tell the same of each byte
all_agree : (p q : ℕ → Bool) (n : ℕ) (t : List ℕ) → ((k : ℕ) → p (get_or t k 0) ≡ q (get_or t k 0)) → list_all p (take n t) ≡ list_all q (take n t)
all_agree p q zero t same = refl
all_agree p q (suc n) [] same = refl
all_agree p q (suc n) (c ∷ cs) same =
    ap (λ b. b && list_all p (take n cs)) (same 0) ∙ ap (λ all. q c && all) (all_agree p q n cs (λ k. same (suc k)))

-- where each lane tells of its byte whether it is none of a text
pub no_lane_set : (lane : ℕ → ℕ) (n : ℕ) (t : List ℕ) (lanes : List ℕ) → n ≤ 64 → length (take n t) ≡ n → ((k : ℕ) → Fits w8 (get_or t k 0))
    → lanes ≡ map lane (take n t) → agree_below (λ c. not (top 7 (lane c))) is_text_byte 256 ≡ true
    → (mask_l (map (top 7) lanes) % 2 ^ 64 == 0) ≡ is_text (take n t)
no_lane_set lane n t lanes few long fits made all =
    let cs = take n t in
    let stops : ℕ → Bool = λ c. top 7 (lane c) in
    let mask = ap (λ l. mask_l l % 2 ^ 64) (ap (map (top 7)) made ∙ map-map (top 7) lane cs) ∙ mask_l-mod (map stops cs) 64 (omega (arith, length-map cs stops, long)) in
    ap (λ m. m == 0) mask
    ∙ (none_set stops cs ∙ all_agree (λ c. not (stops c)) is_text_byte n t (λ k. agree_below_at (λ c. not (stops c)) is_text_byte 256 (get_or t k 0) all (fits k).fits))

-- a text is one in both of its parts
pub text_in_parts : (k : ℕ) (t : List ℕ) → is_text t ≡ (is_text (take k t) && is_text (drop k t))
text_in_parts zero t = refl
text_in_parts (suc k) [] = refl
text_in_parts (suc k) (c ∷ cs) = ap (λ all. is_text_byte c && all) (text_in_parts k cs) ∙ and_all (is_text_byte c) (is_text (take k cs)) (is_text (drop k cs))
  where
    and_all : (a b d : Bool) → (a && (b && d)) ≡ ((a && b) && d)
    and_all true b d = refl
    and_all false b d = refl
