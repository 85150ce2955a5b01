-- One look at the first bytes of a text: how many come before the first that passes a test.
use Rattle.std.proofs.Common.{◌≡◌, ◌==◌, ℕ, ◌%◌, ◌^◌, ◌+◌, ◌-◌, ◌<◌, ◌≤◌, eqb, Bool, true, false, not, List, [], ◌∷◌, Some, None, map, length, take, drop, get_or, Fits, w8, refl, sym, ap, subst, ◌∙◌, arith, length-drop, inl, inr}
use Rattle.std.proofs.lemmas.Bool.{agree_below, agree_below_at, cases_lt}
use Rattle.std.proofs.lemmas.List.{length-map, get_or-drop, take_all}
use Rattle.std.proofs.lemmas.Simd.{map-map, mask_l-mod, length-chunk, first_set_mask_l, run_in_chunk_le, run_in_chunk_fails, run_in_chunk_stops}
use Rattle.std.specs.List.{position, prefix_len}
use Rattle.byte_text.proofs.FirstPlace.{position_is, position_none}
use Rattle.byte_text.specs.Runs.{IsRun, lowest_set}
use lib.Lanes.{chunk, mask_l, top}

-- a text from a place on, as a slice of it
pub rest_run : (test : ℕ → Bool) (t : List ℕ) (behind many run : ℕ) → IsRun test (take (length t - behind) (drop behind t)) many run → IsRun test (drop behind t) many run
rest_run test t behind many run h =
    subst (λ x. IsRun test x many run) (take_all (length t - behind) (drop behind t) (omega (arith, length-drop behind t))) h

pub itself : (cs : List ℕ) → cs ≡ map (λ c. c) cs
itself [] = refl
itself (c ∷ cs) = ap (λ r. c ∷ r) (itself cs)

module _ (test : ℕ → Bool) (d : List ℕ) (many : ℕ) (few : many ≤ 64) (room : 0 + many ≤ length d) (fits : (k : ℕ) → Fits w8 (get_or d k 0))
    (lane : ℕ → ℕ) (lanes : List ℕ) (made : lanes ≡ map lane (chunk 0 many d)) (run : ℕ)
    (found : run ≡ lowest_set (mask_l (map (top 7) lanes) % 2 ^ 64) many) where
  abbrev stops : ℕ → Bool
  stops c = top 7 (lane c)

  counted : run ≡ prefix_len (λ c. not (stops c)) (chunk 0 many d)
  counted =
      let cs = chunk 0 many d in
      let long = length-chunk 0 many d room in
      let mask = ap (λ l. mask_l l % 2 ^ 64) (ap (map (top 7)) made ∙ map-map (top 7) lane cs) ∙ mask_l-mod (map stops cs) 64 (omega (arith, length-map cs stops, long)) in
      found ∙ ap (λ m. lowest_set m many) mask ∙ first_set_mask_l stops cs many long few

  -- where each lane tells of its byte whether it passes the test
  pub run_is : agree_below stops test 256 ≡ true → IsRun test d many run
  run_is all =
      let tells : (k : ℕ) → stops (get_or d k 0) ≡ test (get_or d k 0) = λ k. agree_below_at stops test 256 (get_or d k 0) all (fits k).fits in
      let at : run ≡ 0 + run = omega arith in
      record {
        within = run_in_chunk_le stops d 0 many run 0 room counted;
        before = λ k below. sym (tells k) ∙ run_in_chunk_fails stops d 0 many run 0 room counted k (omega arith) (omega arith);
        here = λ short. sym (tells run) ∙ ap (λ k. stops (get_or d k 0)) at ∙ run_in_chunk_stops stops d 0 many run 0 room counted short;
      }

-- A later look, at bytes that begin no later than where what was passed ends.
module _ (test : ℕ → Bool) (d : List ℕ) (passed behind many run : ℕ) (near : behind ≤ passed) (first : (k : ℕ) → k < passed → test (get_or d k 0) ≡ false)
    (last : IsRun test (drop behind d) many run) where
  pub both_before : (k : ℕ) → k < behind + run → test (get_or d k 0) ≡ false
  both_before k below =
      elim (cases_lt k passed) [
        | inl inside ↦ first k inside
        | inr outside ↦
            let back : behind + (k - behind) ≡ k = omega arith in
            subst (λ c. test c ≡ false) (get_or-drop behind d (k - behind) 0 ∙ ap (λ j. get_or d j 0) back) (last.before (k - behind) (omega arith))
      ]

  pub both_here : run < many → test (get_or d (behind + run) 0) ≡ true
  both_here short = subst (λ c. test c ≡ true) (get_or-drop behind d run 0) (last.here short)

-- What a look at the last bytes finds is what the whole text has, and else it has none.
pub run_found : (test : ℕ → Bool) (d : List ℕ) (passed behind many run : ℕ) → behind ≤ passed → behind + many ≤ length d
    → ((k : ℕ) → k < passed → test (get_or d k 0) ≡ false) → IsRun test (drop behind d) many run → run < many → Some (behind + run) ≡ position test d
run_found test d passed behind many run near room first last short =
    sym (position_is test d (behind + run) (omega arith) (both_before test d passed behind many run near first last)
    (both_here test d passed behind many run near first last short))

pub none_in_last : (test : ℕ → Bool) (d : List ℕ) (passed behind many run : ℕ) → behind ≤ passed → length d ≤ behind + many
    → ((k : ℕ) → k < passed → test (get_or d k 0) ≡ false) → IsRun test (drop behind d) many run → many ≤ run → None ≡ position test d
none_in_last test d passed behind many run near room first last full =
    sym (position_none test d (λ k within. both_before test d passed behind many run near first last k (omega arith)))

-- ---- looks one behind the other

-- so many bytes are there, and were passed
abbrev pub ArePassed : (ℕ → Bool) → List ℕ → ℕ → Type 0
ArePassed test d at = (at ≤ length d) × ((k : ℕ) → k < at → test (get_or d k 0) ≡ false)

pub passed_more : (test : ℕ → Bool) (d : List ℕ) (at run : ℕ) → ArePassed test d at → at + 16 ≤ length d → IsRun test (take (length d - at) (drop at d)) 16 run → 16 ≤ run
    → ArePassed test d (at + 16)
passed_more test d at run passed room look full =
    (room, λ k below. both_before test d at at 16 run (omega arith) passed.1 (rest_run test d at 16 run look) k (omega arith))

pub stop_found : (test : ℕ → Bool) (d : List ℕ) (at run : ℕ) → ArePassed test d at → at + 16 ≤ length d → IsRun test (take (length d - at) (drop at d)) 16 run → run < 16
    → Some (at + run) ≡ position test d
stop_found test d at run passed room look short =
    run_found test d at at 16 run (omega arith) room passed.1 (rest_run test d at 16 run look) short

pub stop_in_last : (test : ℕ → Bool) (d : List ℕ) (at run : ℕ) → ArePassed test d at → 16 ≤ length d → length d - at < 16
    → IsRun test (take (length d - (length d - 16)) (drop (length d - 16) d)) 16 run → run < 16 → Some (length d - 16 + run) ≡ position test d
stop_in_last test d at run passed long near look short =
    run_found test d at (length d - 16) 16 run (omega arith) (omega arith) passed.1 (rest_run test d (length d - 16) 16 run look) short

pub no_stop_in_last : (test : ℕ → Bool) (d : List ℕ) (at run : ℕ) → ArePassed test d at → 16 ≤ length d → length d - at < 16
    → IsRun test (take (length d - (length d - 16)) (drop (length d - 16) d)) 16 run → 16 ≤ run → None ≡ position test d
no_stop_in_last test d at run passed long near look full =
    none_in_last test d at (length d - 16) 16 run (omega arith) (omega arith) passed.1 (rest_run test d (length d - 16) 16 run look) full

-- Lanes that tell of each byte whether it is a certain one.
pub byte_run : (byte : ℕ) (d : List ℕ) (many run : ℕ) → 0 + many ≤ length d → run ≡ prefix_len (λ c. not (eqb c byte)) (chunk 0 many d) → IsRun (λ c. c == byte) d many run
byte_run byte d many run room counted =
    let at : run ≡ 0 + run = omega arith in
    record {
      within = run_in_chunk_le (λ c. eqb c byte) d 0 many run 0 room counted;
      before = λ k below. run_in_chunk_fails (λ c. eqb c byte) d 0 many run 0 room counted k (omega arith) (omega arith);
      here = λ short. ap (λ k. eqb (get_or d k 0) byte) at ∙ run_in_chunk_stops (λ c. eqb c byte) d 0 many run 0 room counted short;
    }
