-- Logs that agree have one file of each period.
use Rattle.std.proofs.Common.{◌≡◌, ℕ, zero, suc, ◌+◌, Bool, true, false, List, [], ◌∷◌, map, refl, sym, ap, subst, ◌∙◌, Some, eqb-true}
use Rattle.std.specs.Prelude.{slice_get, if◌then◌else◌}
use Rattle.std.specs.List.{Contains}
use Rattle.std.proofs.lemmas.Option.{same_Some, none-some, slice_get_within, get_or_from_slice_get}
use Rattle.metering_model.specs.declared.Worker.{Worker}
use Rattle.metering_model.specs.World.{Reply, Journaled, Delivered, Started, Restarted, Exported, KeptText, Refused, Snapshot}
use Rattle.metering_model.specs.History.{Entry}
use Rattle.group_laws.specs.Headline.{HoldsAfter}
use Rattle.node_book.specs.Books.{Book, Told, Log, Plan, file_in}
use Rattle.node_book.specs.Agreement.{is_same_worker, from_own, is_export_of, Agree, IsToldIn, FilesAgree}

abbrev replies_of : List Entry → List Reply
replies_of history = map (λ e. e.reply) history

abbrev told : ℕ → Entry → Told
told place e = record { index = place; reply = e.reply }

-- the reply stands somewhere in the history
abbrev IsReplyIn : List Entry → Reply → Type 0
IsReplyIn history r = (j : ℕ) × (slice_get (replies_of history) j ≡ Some r)

told_here : (e : Entry) (place : ℕ) (es : List Entry) (rest : List Told) (t : Told) → ((k : ℕ) → slice_get rest k ≡ Some t → IsReplyIn es t.reply)
    → (own : Bool) (k : ℕ) → slice_get (if own then told place e ∷ rest else rest) k ≡ Some t → IsReplyIn (e ∷ es) t.reply
told_here e place es rest t later true zero is = (0, ap (λ (u : Told). Some u.reply) (same_Some (told place e) t is))
told_here e place es rest t later true (suc k) is = let r = later k is in (suc r.0, r.1)
told_here e place es rest t later false k is = let r = later k is in (suc r.0, r.1)

-- what a worker was told is a reply of the history
told_from_history : (who : Worker) (place : ℕ) (history : List Entry) (t : Told) (k : ℕ) → slice_get (from_own told who place history) k ≡ Some t → IsReplyIn history t.reply
told_from_history who place [] t k is = absurd (none-some t is)
told_from_history who place (e ∷ es) t k is =
    told_here e place es (from_own told who (place + 1) es) t (told_from_history who (place + 1) es t) (is_same_worker e.who who) k is

contained : (history : List Entry) (r : Reply) → IsReplyIn history r → Contains (replies_of history) r
contained history r at = (at.0, slice_get_within (replies_of history) at.0 r at.1, get_or_from_slice_get (replies_of history) at.0 r r at.1)

exported_of : (r : Reply) (period : ℕ) → is_export_of period r ≡ true → (s : Snapshot) × (r ≡ Exported s) × (s.period ≡ period)
exported_of (Exported s) period is = (s, refl, eqb-true s.period period is)
exported_of (Journaled k) period is = absurd (cc)
exported_of (Delivered sent learned) period is = absurd (cc)
exported_of (Started ballot k) period is = absurd (cc)
exported_of Restarted period is = absurd (cc)
exported_of (KeptText text) period is = absurd (cc)
exported_of (Refused why) period is = absurd (cc)

module _ (book : Book) (plan : Plan) (logs : List Log) (agree : Agree book plan logs)
    (holds : HoldsAfter book.voters book.observers book.agents book.sheet book.issuer (map (λ (e : Entry). e.event) book.history) (map (λ (e : Entry). e.reply) book.history) book.world) where
  reply_in : (t : Told) → IsToldIn logs t → IsReplyIn book.history t.reply
  reply_in t h =
      let own = (agree.each_log h.0 h.1 h.3).told in
      told_from_history h.1.who 0 book.history t h.2 (subst (λ ts. slice_get ts h.2 ≡ Some t) (sym own) h.4)

  same_snapshot : (s u : Snapshot) → IsReplyIn book.history (Exported s) → IsReplyIn book.history (Exported u) → s.period ≡ u.period → s ≡ u
  same_snapshot s u a b same = holds.one_export s u (contained book.history (Exported s) a) (contained book.history (Exported u) b) same

  pub files_agree : FilesAgree logs
  files_agree t u period a b x y =
      let s = exported_of t.reply period x in
      let v = exported_of u.reply period y in
      let one : s.0 ≡ v.0 = same_snapshot s.0 v.0 (subst (IsReplyIn book.history) s.1 (reply_in t a)) (subst (IsReplyIn book.history) v.1 (reply_in u b)) (s.2 ∙ sym v.2) in
      ap file_in s.1 ∙ (ap (λ (z : Snapshot). file_in (Exported z)) one ∙ sym (ap file_in v.1))
