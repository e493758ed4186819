use Rattle.xr_change.proofs.replace.+replace_below.Given as goal

-- proposed from what the function passes where it calls itself
abbrev pub decreases-replace_below : goal.decreases-replace_below
decreases-replace_below g l = l.level
