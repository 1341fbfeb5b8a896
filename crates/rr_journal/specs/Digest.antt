-- The digests that chain the records of a journal.
use Rattle.std.specs.Prelude.{ℕ, List, ◌∷◌, ◌++◌, length, take}
use Rattle.std.specs.Int.{w32, to_be_bytes}
use Rattle.sha2.specs.Sha256.{sha256}
use Rattle.rr_journal.specs.declared.digest.TheConstants.{DIGEST_LEN}

-- the first eight bytes of a text's SHA-256 digest
unfoldable pub cut_digest : List ℕ → List ℕ
cut_digest text = take DIGEST_LEN (sha256 text)

-- a record without its digest: the length of the body in four bytes, the kind in one, and the body
abbrev pub undigested_text : ℕ → List ℕ → List ℕ
undigested_text kind body = to_be_bytes w32 (length body) ++ (kind ∷ body)

-- the digest of a record, given that of the record before it
abbrev pub link : List ℕ → ℕ → List ℕ → List ℕ
link before kind body = cut_digest (before ++ undigested_text kind body)
