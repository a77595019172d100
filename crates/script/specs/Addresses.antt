-- What the parts of an address say. Assumes nothing.
use Rattle.std.specs.Prelude.{ℕ, zero, suc, ◌+◌, ◌*◌, cond, List, [], ◌∷◌, is_some, Some, None, Option, Ok, Err, Result, nat_le}
use Rattle.script.specs.Cuts.{split_at}
use Rattle.script.specs.Numbers.{numeral_of, hex_pair_of}
use Rattle.carrier.specs.declared.address.IpAddr.{IpAddr}
use Rattle.carrier.specs.declared.address.IpAddr.TheVariants.{V4, V6}
use Rattle.script.specs.declared.number.NumeralError.{NumeralError}

-- A number up to 255, and nothing of another.
abbrev pub octet_by : Result ℕ NumeralError → Option ℕ
octet_by (Ok n) = cond (nat_le n 255) (Some n) None
octet_by (Err e) = None

-- A number of an IPv4 address: at most 255.
abbrev pub octet_of : List ℕ → Option ℕ
octet_of cs = octet_by (numeral_of cs)

-- Two bytes, if both are there, are one number of 16 bits, the high byte first.
abbrev pub joined : Option ℕ → Option ℕ → Option ℕ
joined None low = None
joined (Some high) None = None
joined (Some high) (Some low) = Some (high * 256 + low)

-- The number that four hexadecimal digits write.
abbrev pub four_digits_of : ℕ → ℕ → ℕ → ℕ → Option ℕ
four_digits_of a b c d = joined (hex_pair_of a b) (hex_pair_of c d)

-- A group of an IPv6 address: one to four hexadecimal digits, as if zeros stood before them.
abbrev pub group_of : List ℕ → Option ℕ
group_of [] = None
group_of (a ∷ []) = four_digits_of 48 48 48 a
group_of (a ∷ (b ∷ [])) = four_digits_of 48 48 a b
group_of (a ∷ (b ∷ (c ∷ []))) = four_digits_of 48 a b c
group_of (a ∷ (b ∷ (c ∷ (d ∷ [])))) = four_digits_of a b c d
group_of (a ∷ (b ∷ (c ∷ (d ∷ (e ∷ cs))))) = None

-- What follows from a part that is there.
abbrev pub bind : {A B : Type 0} → Option A → (A → Option B) → Option B
bind None f = None
bind (Some x) f = f x

-- The part before the first such byte, and what follows the byte.
abbrev pub part_before : {A : Type 0} → ℕ → (List ℕ → Option A) → List ℕ → Option (A × List ℕ)
part_before b part_of cs = bind (split_at b cs) (λ p. bind (part_of p.0) (λ n. Some (n, p.1)))

-- So many parts, each before the next such byte, and what follows the last of these bytes.
abbrev pub parts_before : {A : Type 0} → ℕ → (List ℕ → Option A) → ℕ → List ℕ → Option (List A × List ℕ)
parts_before b part_of zero cs = Some ([], cs)
parts_before b part_of (suc n) cs =
    bind (part_before b part_of cs) (λ p. bind (parts_before b part_of n p.1) (λ q. Some (p.0 ∷ q.0, q.1)))

-- The number before the first dot, and what follows the dot.
abbrev pub octet_before_dot : List ℕ → Option (ℕ × List ℕ)
octet_before_dot cs = part_before 46 octet_of cs

-- The group before the first colon, and what follows the colon.
abbrev pub group_before_colon : List ℕ → Option (ℕ × List ℕ)
group_before_colon cs = part_before 58 group_of cs

-- Four numbers up to 255 with dots between them.
abbrev pub v4_of : List ℕ → Option IpAddr
v4_of cs =
    bind (octet_before_dot cs) (λ a. bind (octet_before_dot a.1) (λ b. bind (octet_before_dot b.1) (λ c.
    bind (octet_of c.1) (λ d. Some (V4 (a.0 ∷ (b.0 ∷ (c.0 ∷ (d ∷ [])))))))))

-- Eight groups of hexadecimal digits with colons between them.
abbrev pub v6_of : List ℕ → Option IpAddr
v6_of cs =
    bind (group_before_colon cs) (λ a. bind (group_before_colon a.1) (λ b. bind (group_before_colon b.1) (λ c.
    bind (group_before_colon c.1) (λ d. bind (group_before_colon d.1) (λ e.
    bind (group_before_colon e.1) (λ f. bind (group_before_colon f.1) (λ g. bind (group_of g.1) (λ h.
    Some (V6 (a.0 ∷ (b.0 ∷ (c.0 ∷ (d.0 ∷ (e.0 ∷ (f.0 ∷ (g.0 ∷ (h ∷ [])))))))))))))))))

-- An address: the second where there is a colon, else the first.
abbrev pub address_of : List ℕ → Option IpAddr
address_of cs = cond (is_some (split_at 58 cs)) (v6_of cs) (v4_of cs)
