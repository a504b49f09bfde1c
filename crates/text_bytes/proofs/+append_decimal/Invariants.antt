use Rattle.text_bytes.proofs.+append_decimal.Given as goal

-- proposed from what the function passes where it calls itself
abbrev pub decreases-append_decimal : goal.decreases-append_decimal
decreases-append_decimal l = l.n
