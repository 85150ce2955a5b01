-- Digits that were written in front of what a buffer ends with.
use Rattle.std.proofs.Common.{◌≡◌, ℕ, suc, ◌+◌, ◌<◌, List, ◌∷◌, ◌++◌, length, take, drop, sym, ap, subst, ◌∙◌, arith, length-drop, drop-cons}
use Rattle.std.specs.Str.{IsAscii}
use Rattle.std.proofs.lemmas.List.{take-append-drop}
use Rattle.std.proofs.lemmas.Str.{IsAscii-take, IsAscii-drop, IsAscii-append}

pub ascii_after : (new old ds : List ℕ) (from to : ℕ) → drop from new ≡ ds ++ drop to old → take from new ≡ take from old → IsAscii ds → IsAscii old → IsAscii new
ascii_after new old ds from to written before digits ascii =
    subst IsAscii (take-append-drop from new)
    (IsAscii-append (take from new) (drop from new) (subst IsAscii (sym before) (IsAscii-take old from ascii))
    (subst IsAscii (sym written) (IsAscii-append ds (drop to old) digits (IsAscii-drop old to ascii))))

-- what stands behind a first byte
pub behind_first : (new rest : List ℕ) (from first : ℕ) → drop from new ≡ first ∷ rest → drop (from + 1) new ≡ rest
behind_first new rest from first e =
    let within : from < length new = omega (arith, length-drop from new, ap length e) in
    let next : suc from ≡ from + 1 = omega arith in
    ap (λ n. drop n new) (sym next) ∙ ap (drop 1) (sym (drop-cons new from 0 within) ∙ e)
