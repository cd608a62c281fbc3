-- Bytes that are appended one after another are appended as one.
use Rattle.std.proofs.Common.{◌≡◌, ℕ, ◌+◌, ◌*◌, ◌<◌, List, [], ◌∷◌, ◌++◌, length, get_or, take, Vec, append-nil, append_assoc, length-append, sym, refl, ap, ◌∙◌, arith, vec_items}
use Rattle.std.proofs.lemmas.List.{take_more}
use Rattle.std.specs.declared.alloc.Global.{Global}
use Rattle.line.specs.Words.{bytes16}
use Rattle.runfile.specs.RunFile.{keys_bytes}
use Rattle.compose.specs.Bytes.{Puts}

pub puts_none : (v : Vec ℕ Global) → Puts v [] v
puts_none v = record { items = sym (append-nil (vec_items v)); len = omega arith; capacity = omega arith }

pub puts_twice : {u v w : Vec ℕ Global} {xs ys : List ℕ} → Puts u xs v → Puts v ys w → Puts u (xs ++ ys) w
puts_twice {u} {v} {w} {xs} {ys} p q =
    let l = length-append xs ys in
    record {
      items = q.items ∙ ap (λ (zs : List ℕ). zs ++ ys) p.items ∙ append_assoc (vec_items u) xs ys;
      len = omega arith;
      capacity = omega arith;
    }

keys_bytes_push : (ks : List ℕ) (k : ℕ) → keys_bytes (ks ++ k ∷ []) ≡ keys_bytes ks ++ bytes16 k
keys_bytes_push [] k = append-nil (bytes16 k)
keys_bytes_push (j ∷ ks) k = ap (λ (l : List ℕ). bytes16 j ++ l) (keys_bytes_push ks k) ∙ sym (append_assoc (bytes16 j) (keys_bytes ks) (bytes16 k))

-- one key more
pub keys_more : (ks : List ℕ) (i : ℕ) → i < length ks → keys_bytes (take (i + 1) ks) ≡ keys_bytes (take i ks) ++ bytes16 (get_or ks i 0)
keys_more ks i lt = ap keys_bytes (take_more ks i 0 lt) ∙ keys_bytes_push (take i ks) (get_or ks i 0)

pub length_keys : (ks : List ℕ) → length (keys_bytes ks) ≡ 2 * length ks
length_keys [] = refl
length_keys (k ∷ ks) = let l = length_keys ks in omega arith
