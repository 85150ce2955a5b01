use Rattle.std.proofs.Common.{◌≡◌, ℕ, ◌+◌, ◌<◌, ◌≤◌, List, [], ◌∷◌, ◌++◌, codes, length, get_or, drop, map, sym, ap, ◌∙◌, append-nil, append_assoc}
use Rattle.std.proofs.lemmas.List.{at_drop_all, at_drop_more}
use Rattle.fault_lines.specs.UnknownKeys.{shown}
use Rattle.fault_lines.proofs.key_lines.put_name.Goals as goal

-- one more byte is put
one_more : (f : ℕ → ℕ) (told longer name all : List ℕ) (i b : ℕ) → i < length name → b ≡ f (get_or name i 0) → longer ≡ told ++ b ∷ [] → told ++ map f (drop i name) ≡ all
    → longer ++ map f (drop (i + 1) name) ≡ all
one_more f told longer name all i b low is put before =
    let rest = map f (drop (i + 1) name) in
    ap (λ t. t ++ rest) put
    ∙ append_assoc told (b ∷ []) rest
    ∙ ap (λ x. told ++ x ∷ rest) is
    ∙ ap (λ t. told ++ t) (sym (at_drop_more (map f) name i 0 low))
    ∙ before

-- or none is left
none_left : (f : ℕ → ℕ) (told name all : List ℕ) (i : ℕ) → length name ≤ i → told ++ map f (drop i name) ≡ all → told ≡ all
none_left f told name all i past before = sym (append-nil told) ∙ ap (λ t. told ++ t) (sym (at_drop_all (map f) name i past)) ∙ before

pub loop-byte-init : goal.loop-byte-init
loop-byte-init c =
    let name = map shown c.args.name.now in
    ap (λ t. t ++ name) c.in-Ok.ensures.items ∙ append_assoc c.args.told.now.items (codes "unknown ") name

pub loop-byte-preserved : goal.loop-byte-preserved
loop-byte-preserved c =
    one_more shown c.loop-byte.told.items c.push.new.self.items c.args.name.now (c.args.told.now.items ++ (codes "unknown " ++ map shown c.args.name.now)) c.loop-byte.byte-index c.shown.result
    c.loop-byte-test.true c.shown.ensures c.in-Ok-push.ensures.items c.loop-byte.invariant

pub returns : goal.returns
returns c =
    none_left shown c.loop-byte.told.items c.args.name.now (c.args.told.now.items ++ (codes "unknown " ++ map shown c.args.name.now)) c.loop-byte.byte-index c.loop-byte-test.false c.loop-byte.invariant
