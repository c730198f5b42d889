-- Bytes have one reading or one fault at most, and never both.
use Rattle.std.proofs.Common.{◌≡◌, ℕ, List, [], ◌∷◌, ◌++◌, length, refl, sym, ap, ◌∙◌, subst, append_assoc, append-nil, ⊎_elim, IsUtf8}
use Rattle.std.specs.Str.{IsValidUpTo}
use Rattle.std.proofs.Math.Seq.{take-length}
use Rattle.std.proofs.lemmas.Bool.{cases_order}
use Rattle.stab_lex.specs.declared.token.Token.{Token}
use Rattle.stab_lex.specs.declared.token.LexFault.{LexFault}
use Rattle.stab_lex.specs.declared.token.LexFault.TheVariants.{NotUtf8, BadChar, BigNumber, OpenText, NoMemory}
use Rattle.stab_lex.specs.Place.{byte_len}
use Rattle.stab_lex.specs.Pieces.{Piece, Quoted, spelling, obstacle_spelling, IsTextOf}
use Rattle.stab_lex.specs.Readings.{spellings, AllStand, tokens_at, Reads, fault_at, IsBlocked, HasFault}
use Rattle.stab_lex.proofs.Scan.{Seen, Ended, Found, Stuck, first_of, first_of-nil, first_of-piece, first_of-obstacle}

-- no piece is seen
abbrev IsEnd : Seen → Type 0
IsEnd Ended = Unit {0}
IsEnd (Found p rest) = ⊥
IsEnd (Stuck o rest) = Unit {0}

found : (p : Piece) (ps : List Piece) (t : List ℕ) → AllStand (p ∷ ps) t → first_of (spellings (p ∷ ps) ++ t) ≡ Found p (spellings ps ++ t)
found p ps t stand = ap first_of (append_assoc (spelling p) (spellings ps) t) ∙ first_of-piece p (spellings ps ++ t) stand.0

-- two lists of pieces that spell one text, each up to where no piece stands, are one
same_pieces : (ps qs : List Piece) (t u : List ℕ) → AllStand ps t → AllStand qs u → IsEnd (first_of t) → IsEnd (first_of u) → spellings ps ++ t ≡ spellings qs ++ u → (ps ≡ qs) × (t ≡ u)
same_pieces [] [] t u left right at_t at_u same = (refl, same)
same_pieces [] (q ∷ qs) t u left right at_t at_u same = absurd (subst IsEnd (ap first_of same ∙ found q qs u right) at_t)
same_pieces (p ∷ ps) [] t u left right at_t at_u same = absurd (subst IsEnd (sym (ap first_of same) ∙ found p ps t left) at_u)
same_pieces (p ∷ ps) (q ∷ qs) t u left right at_t at_u same =
    let seen : Found p (spellings ps ++ t) ≡ Found q (spellings qs ++ u) = sym (found p ps t left) ∙ ap first_of same ∙ found q qs u right in
    let first : p ≡ q = cc in
    let rest : spellings ps ++ t ≡ spellings qs ++ u = cc in
    let more = same_pieces ps qs t u left.1 right.1 at_t at_u rest in
    ((λ i. first i ∷ more.0 i), more.1)

at_end : IsEnd (first_of [])
at_end = subst IsEnd (sym first_of-nil) tt

at_obstacle : {bytes : List ℕ} {fault : LexFault} (b : IsBlocked bytes fault) → IsEnd (first_of (obstacle_spelling b.obstacle ++ b.after))
at_obstacle b = subst IsEnd (sym (first_of-obstacle b.obstacle b.after b.blocks)) tt

pub one_reading : (bytes : List ℕ) (tokens others : List Token) → Reads bytes tokens → Reads bytes others → tokens ≡ others
one_reading bytes tokens others r s =
    let text : spellings r.pieces ++ [] ≡ spellings s.pieces ++ [] = append-nil (spellings r.pieces) ∙ sym r.text ∙ s.text ∙ sym (append-nil (spellings s.pieces)) in
    let same = same_pieces r.pieces s.pieces [] [] r.stand s.stand at_end at_end text in
    r.tokens_are ∙ ap (tokens_at 0) same.0 ∙ sym s.tokens_are

read_not_blocked : (bytes : List ℕ) (tokens : List Token) (fault : LexFault) → Reads bytes tokens → IsBlocked bytes fault → ⊥
read_not_blocked bytes tokens fault r b =
    let text : spellings r.pieces ++ [] ≡ spellings b.pieces ++ (obstacle_spelling b.obstacle ++ b.after) = append-nil (spellings r.pieces) ∙ sym r.text ∙ b.text in
    let same = same_pieces r.pieces b.pieces [] (obstacle_spelling b.obstacle ++ b.after) r.stand b.stand at_end (at_obstacle b) text in
    let seen : Ended ≡ Stuck b.obstacle b.after = sym first_of-nil ∙ ap first_of same.1 ∙ first_of-obstacle b.obstacle b.after b.blocks in
    (cc)

one_obstacle : (bytes : List ℕ) (fault other : LexFault) → IsBlocked bytes fault → IsBlocked bytes other → fault ≡ other
one_obstacle bytes fault other a b =
    let same = same_pieces a.pieces b.pieces (obstacle_spelling a.obstacle ++ a.after) (obstacle_spelling b.obstacle ++ b.after) a.stand b.stand (at_obstacle a) (at_obstacle b) (sym a.text ∙ b.text) in
    let seen : Stuck a.obstacle a.after ≡ Stuck b.obstacle b.after = sym (first_of-obstacle a.obstacle a.after a.blocks) ∙ ap first_of same.1 ∙ first_of-obstacle b.obstacle b.after b.blocks in
    let stands : a.obstacle ≡ b.obstacle = cc in
    a.fault_is ∙ (λ i. fault_at (byte_len (spellings (same.0 i))) (stands i)) ∙ sym b.fault_is

-- what is UTF-8 has no place from which it isn't
valid_throughout : (bytes : List ℕ) (n : ℕ) → IsUtf8 bytes → IsValidUpTo bytes n → ⊥
valid_throughout bytes n utf8 broken = broken.longest (length bytes) broken.short (subst IsUtf8 (sym (take-length bytes)) utf8)

one_place : (bytes : List ℕ) (m n : ℕ) → IsValidUpTo bytes m → IsValidUpTo bytes n → m ≡ n
one_place bytes m n a b = ⊎_elim
    (λ same. same)
    (λ h. ⊎_elim (λ less. absurd (a.longest n less b.front)) (λ more. absurd (b.longest m more a.front)) h)
    (cases_order m n)

pub not_both : (bytes : List ℕ) (tokens : List Token) (fault : LexFault) → Reads bytes tokens → HasFault bytes fault → ⊥
not_both bytes tokens (NotUtf8 n) r f = valid_throughout bytes n r.utf8 f
not_both bytes tokens NoMemory r f = f
not_both bytes tokens (BadChar n) r f = read_not_blocked bytes tokens (BadChar n) r f
not_both bytes tokens (BigNumber n) r f = read_not_blocked bytes tokens (BigNumber n) r f
not_both bytes tokens (OpenText n) r f = read_not_blocked bytes tokens (OpenText n) r f

-- a fault past UTF-8 against any other
past_utf8 : (bytes : List ℕ) (fault other : LexFault) → IsBlocked bytes fault → HasFault bytes other → fault ≡ other
past_utf8 bytes fault (NotUtf8 n) b f = absurd (valid_throughout bytes n b.utf8 f)
past_utf8 bytes fault NoMemory b f = absurd f
past_utf8 bytes fault (BadChar n) b f = one_obstacle bytes fault (BadChar n) b f
past_utf8 bytes fault (BigNumber n) b f = one_obstacle bytes fault (BigNumber n) b f
past_utf8 bytes fault (OpenText n) b f = one_obstacle bytes fault (OpenText n) b f

not_utf8 : (bytes : List ℕ) (m : ℕ) (other : LexFault) → IsValidUpTo bytes m → HasFault bytes other → NotUtf8 m ≡ other
not_utf8 bytes m (NotUtf8 n) broken f = ap NotUtf8 (one_place bytes m n broken f)
not_utf8 bytes m NoMemory broken f = absurd f
not_utf8 bytes m (BadChar n) broken f = absurd (valid_throughout bytes m f.utf8 broken)
not_utf8 bytes m (BigNumber n) broken f = absurd (valid_throughout bytes m f.utf8 broken)
not_utf8 bytes m (OpenText n) broken f = absurd (valid_throughout bytes m f.utf8 broken)

pub one_fault : (bytes : List ℕ) (fault other : LexFault) → HasFault bytes fault → HasFault bytes other → fault ≡ other
one_fault bytes (NotUtf8 m) other f g = not_utf8 bytes m other f g
one_fault bytes NoMemory other f g = absurd f
one_fault bytes (BadChar m) other f g = past_utf8 bytes (BadChar m) other f g
one_fault bytes (BigNumber m) other f g = past_utf8 bytes (BigNumber m) other f g
one_fault bytes (OpenText m) other f g = past_utf8 bytes (OpenText m) other f g

-- a text stands for one list of characters
pub one_text : (literal cs others : List ℕ) → IsTextOf literal cs → IsTextOf literal others → cs ≡ others
one_text literal cs others a b =
    let seen : Found (Quoted cs) [] ≡ Found (Quoted others) [] =
    sym (first_of-piece (Quoted cs) [] a.in_line) ∙ ap (λ t. first_of (t ++ [])) (sym a.text ∙ b.text) ∙ first_of-piece (Quoted others) [] b.in_line in
    cc
