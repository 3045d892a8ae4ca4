-- What answers the calls: given what is known of a hue count, or of one with a cell, that no sentence refuses, or refused. Assumes nothing.
use Rattle.answers.proofs.Answers.{says-given, cell-hues-some, cell-hues-few, hues-refused, hues-given, hues-some}

pub ruleset of_cell = (says-given, cell-hues-some, cell-hues-few)

pub ruleset of_hues = (hues-refused, hues-given, hues-some)
