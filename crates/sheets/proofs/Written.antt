-- Bytes put into a buffer one word after another. Assumes nothing.
use Rattle.std.proofs.Common.{◌≡◌, ℕ, ◌+◌, ◌*◌, List, [], ◌∷◌, ◌++◌, length, take, drop, sym, refl, ap, ◌∙◌, append_assoc, arith, length-append, drop-drop}
use Rattle.std.proofs.lemmas.List.{take_at, drop_at}
use Rattle.sheets.specs.Bytes.{bytes_of}

pub bytes_append : (xs ys : List ℕ) → bytes_of (xs ++ ys) ≡ bytes_of xs ++ bytes_of ys
bytes_append [] ys = refl
bytes_append (x ∷ xs) ys = let ih = bytes_append xs ys in cc

pub bytes_length : (ws : List ℕ) → length (bytes_of ws) ≡ 4 * length ws
bytes_length [] = refl
bytes_length (w ∷ ws) = let ih = bytes_length ws in omega (arith, ih)

-- a buffer that begins with what is written
abbrev pub beginning : List ℕ → List ℕ → List ℕ
beginning done buffer = done ++ drop (length done) buffer

-- a word put behind it
pub written_more : (done buffer now : List ℕ) (end bits : ℕ) → now ≡ beginning done buffer → end ≡ length done
    → take end now ++ (bytes_of (bits ∷ []) ++ drop (end + 4) now) ≡ beginning (done ++ bytes_of (bits ∷ [])) buffer
written_more done buffer now end bits e h =
    let front : take end now ≡ done = ap (take end) e ∙ take_at done (drop (length done) buffer) end (sym h) in
    let past : drop end now ≡ drop (length done) buffer = ap (drop end) e ∙ drop_at done (drop (length done) buffer) end (sym h) in
    let long : length done + 4 ≡ length (done ++ bytes_of (bits ∷ [])) = sym (length-append done (bytes_of (bits ∷ []))) in
    let rest : drop (end + 4) now ≡ drop (length (done ++ bytes_of (bits ∷ []))) buffer =
    sym (drop-drop 4 end now) ∙ ap (drop 4) past ∙ drop-drop 4 (length done) buffer ∙ ap (λ n. drop n buffer) long in
    ap (λ xs. xs ++ (bytes_of (bits ∷ []) ++ drop (end + 4) now)) front ∙ ap (λ xs. done ++ (bytes_of (bits ∷ []) ++ xs)) rest
    ∙ sym (append_assoc done (bytes_of (bits ∷ [])) (drop (length (done ++ bytes_of (bits ∷ []))) buffer))
