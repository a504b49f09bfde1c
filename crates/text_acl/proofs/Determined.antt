-- The reading of a listing's reply loses nothing: replies that read the same are the same, so that the promises of both entry points determine the reply and every
-- byte of the lent buffer.
use mathlib.Core.Path.{◌≡◌, refl, sym, ◌∙◌, ap}
use Rattle.rules.specs.Basics.{Bytes}
use Rattle.refusals.proofs.Determined.{refusal_back, refusal_back_lem}
use Rattle.text_rules.specs.Listing.{ListingReply, produced, refused_with, refused_at, Listed}
use Rattle.std.specs.Prelude.{ℕ, Result, Ok, Err}
use Rattle.text_acl.specs.declared.TextError.{TextError}
use Rattle.text_acl.specs.declared.TextError.TheVariants.{Refused, BadLine}
use Rattle.text_acl.specs.Answers.{listing_reply_as, IsListed}

abbrev reply_back : ListingReply → Result ℕ TextError
reply_back (produced n) = Ok n
reply_back (refused_with f) = Err (Refused (refusal_back f))
reply_back (refused_at f n) = Err (BadLine n)

reply_back_lem : (r : Result ℕ TextError) → reply_back (listing_reply_as r) ≡ r
reply_back_lem (Ok n) = refl
reply_back_lem (Err (Refused r)) = let e = refusal_back_lem r in cc
reply_back_lem (Err (BadLine n)) = refl

pub listed_determined : (is : Listed) (r s : Result ℕ TextError) (b c : Bytes) → IsListed is r b → IsListed is s c → (r ≡ s) × (b ≡ c)
listed_determined is r s b c p q =
    (sym (reply_back_lem r) ∙ ap reply_back (p.reply ∙ sym q.reply) ∙ reply_back_lem s, p.buffer ∙ sym q.buffer)
