mod StairLemmas
