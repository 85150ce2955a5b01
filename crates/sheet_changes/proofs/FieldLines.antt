-- A line of a field as it is put together.
use Rattle.std.proofs.Common.{◌≡◌, ◌≢◌, ℕ, false, List, [], ◌∷◌, ◌++◌, map, Bor, refl, sym, ap, ◌∙◌, inl, inr}
use Rattle.std.specs.List.{flat_map, join_with_byte}
use Rattle.std.proofs.lemmas.Bool.{cond-true, cond-false, cases_Bool}
use Rattle.std.proofs.lemmas.List.{append-nil, append_assoc}
use Rattle.metering_model.specs.BatchReading.{is_same}
use Rattle.metering_model.proofs.FieldLaws.{same_read}
use Rattle.sheet_changes.specs.FieldChanges.{changed, tabbed}
use Rattle.sheet_changes.proofs.CommitmentLaws.{same_text}

-- texts with a tab behind each
abbrev pub each_tabbed : List (Bor (List ℕ)) → List ℕ
each_tabbed parts = flat_map (λ part. part.now ++ 9 ∷ []) parts

abbrev texts_of : List (Bor (List ℕ)) → List (List ℕ)
texts_of parts = map (λ part. part.now) parts

pub joined_behind : (named : List (Bor (List ℕ))) (key old new : List ℕ) → join_with_byte 9 ((texts_of named ++ key ∷ []) ++ old ∷ new ∷ []) ≡ each_tabbed named ++ (key ++ 9 ∷ (old ++ 9 ∷ new))
joined_behind [] key old new = refl
joined_behind (p ∷ []) key old new =
    sym (append_assoc p.now (9 ∷ []) (key ++ 9 ∷ (old ++ 9 ∷ new))) ∙ ap (λ t. t ++ (key ++ 9 ∷ (old ++ 9 ∷ new))) (sym (append-nil (p.now ++ 9 ∷ [])))
joined_behind (p ∷ q ∷ ps) key old new =
    ap (λ t. p.now ++ 9 ∷ t) (joined_behind (q ∷ ps) key old new)
    ∙ (sym (append_assoc p.now (9 ∷ []) (each_tabbed (q ∷ ps) ++ (key ++ 9 ∷ (old ++ 9 ∷ new))))
    ∙ sym (append_assoc (p.now ++ 9 ∷ []) (each_tabbed (q ∷ ps)) (key ++ 9 ∷ (old ++ 9 ∷ new))))

unlike : (old new : List ℕ) → old ≢ new → is_same old new ≡ false
unlike old new other = elim (cases_Bool (is_same old new)) [ inl t ↦ absurd (other (same_read old new t)) | inr f ↦ f ]

pub none_changed : (named : List (List ℕ)) (old new : List ℕ) → old ≡ new → changed named old new ≡ []
none_changed named old new same = cond-true (is_same old new) [] (tabbed (named ++ old ∷ new ∷ [])) (ap (is_same old) (sym same) ∙ same_text old)

pub one_changed : (named : List (List ℕ)) (old new : List ℕ) → old ≢ new → changed named old new ≡ tabbed (named ++ old ∷ new ∷ [])
one_changed named old new other = cond-false (is_same old new) [] (tabbed (named ++ old ∷ new ∷ [])) (unlike old new other)

two_tabbed : (key old : List ℕ) (more : List ℕ) → ((key ++ 9 ∷ []) ++ ((old ++ 9 ∷ []) ++ [])) ++ more ≡ key ++ 9 ∷ (old ++ 9 ∷ more)
two_tabbed key old more =
    ap (λ t. ((key ++ 9 ∷ []) ++ t) ++ more) (append-nil (old ++ 9 ∷ []))
    ∙ (append_assoc (key ++ 9 ∷ []) (old ++ 9 ∷ []) more
    ∙ (append_assoc key (9 ∷ []) ((old ++ 9 ∷ []) ++ more) ∙ ap (λ t. key ++ 9 ∷ t) (append_assoc old (9 ∷ []) more)))

module _ (named : List (Bor (List ℕ))) (key old new : List ℕ) where
  pub line_put : (t named_put key_put new_put put : List ℕ) → is_same old new ≡ false → named_put ≡ t ++ each_tabbed named → key_put ≡ named_put ++ ((key ++ 9 ∷ []) ++ ((old ++ 9 ∷ []) ++ [])) → new_put ≡ key_put ++ new → put ≡ new_put ++ 10 ∷ [] →
      put ≡ t ++ changed (texts_of named ++ key ∷ []) old new
  line_put t named_put key_put new_put put other first second third fourth =
      let two = (key ++ 9 ∷ []) ++ ((old ++ 9 ∷ []) ++ []) in
      fourth
      ∙ (ap (λ x. x ++ 10 ∷ []) (third ∙ (ap (λ x. x ++ new) (second ∙ ap (λ x. x ++ two) first)
      ∙ (append_assoc (t ++ each_tabbed named) two new ∙ (ap (λ x. (t ++ each_tabbed named) ++ x) (two_tabbed key old new)
      ∙ (append_assoc t (each_tabbed named) (key ++ 9 ∷ (old ++ 9 ∷ new)) ∙ ap (λ x. t ++ x) (sym (joined_behind named key old new)))))))
      ∙ (append_assoc t (join_with_byte 9 ((texts_of named ++ key ∷ []) ++ old ∷ new ∷ [])) (10 ∷ []) ∙ ap (λ x. t ++ x) (sym (cond-false (is_same old new) [] (tabbed ((texts_of named ++ key ∷ []) ++ old ∷ new ∷ [])) other))))
