use Rattle.std.proofs.Common.{◌≡◌, ℕ, List, [], ◌∷◌, Some, Ok, refl, sym, ap, ◌∙◌}
use Rattle.metering_model.specs.declared.Version.{Version}
use Rattle.metering_model.specs.BatchReading.{version_in, whole_in, head_in}
use Rattle.batch_view.proofs.head.head_of_line.Goals as goal

head_is : (v a s n : List ℕ) (w : Version) (x y z : ℕ) → version_in v ≡ Some w → whole_in 1 64 a ≡ Some x → whole_in 1 1_000_000 s ≡ Some y
    → whole_in 0 1_000 n ≡ Some z → head_in (v ∷ a ∷ s ∷ n ∷ []) ≡ Ok (record { version = w; agent = x; seq = y; count = z })
head_is v a s n w x y z h i j k = rw h (rw i (rw j (rw k refl)))

pub returns : goal.returns
returns c =
    let f = c.in_ok-fields.fields in
    let head = head_is f.version.now f.agent.now f.seq.now f.count.now _ _ _ _ (sym c.in_ok-read_version.ensures) (sym c.in_ok-read_whole.ensures.value) (sym c.in_ok-read_whole-2.ensures.value) (sym c.in_ok-read_whole-3.ensures.value) in
    (ap head_in c.in_ok-fields.ensures ∙ head, refl)
