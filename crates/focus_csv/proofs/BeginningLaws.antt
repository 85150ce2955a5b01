-- Texts to which something was appended, and what cutting back leaves of them.
use Rattle.std.proofs.Common.{◌≡◌, ℕ, List, [], ◌++◌, length, take, sym, ap, ◌∙◌, append_assoc}
use Rattle.std.proofs.lemmas.List.{append-nil}
use Rattle.std.proofs.Math.Seq.{take-append_seam}
use Rattle.std.specs.Prelude.{Result, Ok, Err, OnErr, OnOk}
use Rattle.std.specs.Bool.{if◌then◌else◌}
use Rattle.std.specs.Result.{is_ok}
use Rattle.focus_csv.specs.Inner.Beginnings.{BeginsWith}

-- what holds whatever the answer is
pub on_err : {T E P : Type 0} (r : Result T E) → P → OnErr r P
on_err (Ok x) p = tt
on_err (Err e) p = p

-- what was appended where the answer is Ok
pub put_ok : {T E : Type 0} (r : Result T E) (new put old : List ℕ) → new ≡ (if is_ok r then put else old) → OnOk r (new ≡ put)
put_ok (Ok x) new put old is = is
put_ok (Err e) new put old is = tt

-- a text that is as before
pub same_begins : (text begun : List ℕ) → text ≡ begun → BeginsWith text begun
same_begins text begun same = ([], same ∙ sym (append-nil begun))

-- what begins with a longer text
pub longer_begins : (text longer begun more : List ℕ) → longer ≡ begun ++ more → BeginsWith text longer → BeginsWith text begun
longer_begins text longer begun more is begins = (more ++ begins.0, begins.1 ∙ ap (λ t. t ++ begins.0) is ∙ append_assoc begun more begins.0)

-- cut back to its length, the text is as before
pub cut_back : (text begun : List ℕ) (n : ℕ) → n ≡ length begun → BeginsWith text begun → take n text ≡ begun
cut_back text begun n is begins = ap (λ m. take m text) is ∙ ap (take (length begun)) begins.1 ∙ take-append_seam begun begins.0
