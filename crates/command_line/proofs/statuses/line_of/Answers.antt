use Rattle.std.proofs.Common.{◌≡◌, ◌++◌, ◌∷◌, [], ℕ, Vec, sym, ap, refl, codes, ◌∙◌}
use Rattle.std.proofs.lemmas.Bool.{false≢true}
use Rattle.std.specs.declared.alloc.Global.{Global}
use Rattle.command_line.specs.Inner.Parts.{first_part, first_words}
use Rattle.command_line.specs.declared.statuses.Fault.{Fault}
use Rattle.command_line.specs.declared.statuses.Fault.TheVariants.{Line, Play, Faults, File, Threads, Process, Unlike, Refused, TooLong, NotClosed}
use Rattle.command_line.proofs.statuses.line_of.Goals as goal
use Rattle.command_line.proofs.statuses.line_of.Goals.{in-Refused, in_default}

-- but of a fault in the words of `check` the first part is the whole line
whole : (fault : Fault) → ((told : Vec ℕ Global) → fault ≡ Refused told → ⊥) → (codes "focusd: " ++ first_words fault) ++ 10 ∷ [] ≡ first_part fault
whole (Refused told) other = absurd (other told refl)
whole (Line fault) other = refl
whole (Play fault) other = refl
whole (Faults count) other = refl
whole (File fault) other = refl
whole (Threads fault) other = refl
whole (Process fault) other = refl
whole Unlike other = refl
whole TooLong other = refl
whole NotClosed other = refl

pub returns : goal.returns
returns c =
    let first : c.put.new.self ≡ codes "focusd: " = c.put.ensures ∙ ap (λ t. t ++ codes "focusd: ") c.new-line.ensures in
    let put = c.put-2.ensures ∙ ap (λ t. t ++ 10 ∷ []) (c.put_message.ensures.put ∙ ap (λ t. t ++ first_words c.args.fault.now) first) in
    elim c.match-matches.branch [ in-Refused w ↦ absurd (false≢true (sym c.if-matches.false ∙ w.matches-is)) | in_default w ↦ put ∙ whole c.args.fault.now w.in_default.not-Refused ]
