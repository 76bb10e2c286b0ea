use Rattle.etcs_packet_text.proofs.page.place.+put_longer.Given as goal

abbrev pub decreases-put_longer : goal.decreases-put_longer
decreases-put_longer l = l.number
